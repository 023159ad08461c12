-- What a tree keeps, and what its calls make of it.
use Rattle.std.proofs.Common.{◌≡◌, ℕ, zero, suc, ◌+◌, ◌-◌, ◌%◌, ◌^◌, ◌<◌, ◌≤◌, List, [], ◌∷◌, length, refl, sym, ap, subst, ◌∙◌, arith}
use Rattle.std.proofs.Math.Nat.{mod-eq_of_lt}
use Rattle.std.specs.FinMap as map
use Rattle.mds_types.specs.Frag.{Fragment, IsFragment, root_fragment, span}
use Rattle.fragtree.specs.FragTree.{IsTree, IsPick, IsSplit, IsMerge, CanSplit, CanMerge, leaves_inside}
use Rattle.fragtree.specs.Descents.{FragSplits, AllSome, Ends, EndsBeyond, IsClosed, SpellsLeaves, Spells, depth, frag_of_hash, fragments_from, spelled_leaves, splits_round}
use Rattle.fragtree.proofs.Merges.{finer, merges}
use Rattle.fragtree.proofs.Ranges.{span_pos}
use Rattle.fragtree.proofs.Rounds.{frag_at-is}
use Rattle.fragtree.proofs.Spelled.{is_kept, merge_spells, split_spells}
use Rattle.fragtree.proofs.Splits.{splits}
use Rattle.fragtree.proofs.TreeLaws.{range_of_leaf, some_pick}
use Rattle.fragtree.proofs.Walks.{inside_few}

length-fragments_from : (bits_of : ℕ → ℕ) (count low : ℕ) → length (fragments_from bits_of count low) ≡ count
length-fragments_from bits_of zero low = refl
length-fragments_from bits_of (suc count) low = ap suc (length-fragments_from bits_of count (low + span (bits_of low)))

pub length-leaves_of : (s : FragSplits) (count : ℕ) → length (spelled_leaves s count) ≡ count
unfolding spelled_leaves
length-leaves_of s count = length-fragments_from (λ hash. depth 24 (splits_round s hash) 0) count 0

-- the leaf of a hash, and that the descent of the hash ends there
module _ (s : FragSplits) (xs : List Fragment) (tree : IsTree xs) (spells : Spells s xs) where
  picked : (hash : ℕ) → (leaf : Fragment) × IsPick xs hash leaf × IsFragment leaf × (leaf.value ≤ hash % 2 ^ 24) × (hash % 2 ^ 24 < leaf.value + span leaf.bits) × Ends (splits_round s (hash % 2 ^ 24)) leaf.bits
  picked hash =
      let (leaf, p) = some_pick xs hash tree in
      let (whole, low, high) = range_of_leaf xs hash leaf tree p.stands p.contains in
      (leaf, p, whole, low, high, spells.ends leaf p.stands (hash % 2 ^ 24) low high)

  pub pick_ends : (hash : ℕ) → EndsBeyond s (hash % 2 ^ 24) 0
  pick_ends hash = let w = picked hash in record { bits = w.0.bits; more = omega arith; few = w.2.few_bits; ends = w.5 }

  pub pick_is : (hash : ℕ) (leaf : Fragment) → ((bits : ℕ) → bits ≤ 24 → Ends (splits_round s (hash % 2 ^ 24)) bits → leaf ≡ frag_of_hash bits (hash % 2 ^ 24)) → IsPick xs hash leaf
  pick_is hash leaf told =
      let w = picked hash in
      subst (IsPick xs hash) (sym (told w.0.bits w.2.few_bits w.5 ∙ frag_at-is w.0 (hash % 2 ^ 24) w.2 w.3 w.4)) w.1

-- `*` alone
pub whole_tree : IsTree (root_fragment ∷ [])
whole_tree = record { tiles = (record { few_bits = omega arith; in_range = omega arith; justified = refl }, refl, refl); few = omega arith }

-- a split and a merge of what is kept, in the words of the calls
module _ (s mid new : FragSplits) (count : ℕ) (now : List Fragment) (kept : SpellsLeaves s count) (view : spelled_leaves s count ≡ now) (same : mid ≡ s) where
  tree : IsTree now
  tree = subst IsTree view kept.tree

  spells : Spells s now
  spells = subst (Spells s) view kept.spells

  counted : count ≡ length now
  counted = sym (length-leaves_of s count) ∙ ap (length {A = Fragment}) view

  pub some_leaf : 1 ≤ count
  some_leaf = omega (arith, (some_pick now 0 tree).1.stands.1, counted)

  pub split_done : (f : Fragment) (nb children : ℕ) → CanSplit now f nb → new ≡ map.insert mid f nb → children ≡ 2 ^ nb
      → (count - 1 + children ≤ 4096) × SpellsLeaves new (count - 1 + children) × IsSplit now (spelled_leaves new (count - 1 + children)) f nb
  split_done f nb children can is few =
      let (ys, whole, split) = splits f nb now tree can in
      let all : map.insert s f nb ≡ new = sym (is ∙ ap (λ (m : FragSplits). map.insert m f nb) same) in
      let spelled = subst (λ (m : FragSplits). Spells m ys) all (split_spells s now ys f nb tree spells can.stands can.fits whole split) in
      let v = is_kept new ys (count - 1 + children) whole spelled (omega (arith, split.count, counted, few)) in
      (omega (arith, can.few, counted, few), v.1, subst (λ zs. IsSplit now zs f nb) (sym v.0) split)

  pub beyond : (f : Fragment) → IsFragment f → CanMerge now f → EndsBeyond mid f.value (f.bits + 1)
  beyond f whole can =
      let w = picked s now tree spells f.value in
      let low : f.value % 2 ^ 24 ≡ f.value = mod-eq_of_lt whole.in_range in
      let more = finer f whole now tree can.some w.0 w.1.stands (omega (arith, w.3, low, span_pos f.bits)) (omega (arith, w.4, low)) in
      let ends = subst (λ n. Ends (splits_round s n) w.0.bits) low w.5 in
      subst (λ (m : FragSplits). EndsBeyond m f.value (f.bits + 1)) (sym same) (record { bits = w.0.bits; more = omega (arith, more); few = w.2.few_bits; ends = ends })

  pub merge_done : (f : Fragment) (inside : ℕ) → IsFragment f → CanMerge now f → inside ≡ length (leaves_inside f now) → AllSome new → IsClosed mid new f
      → SpellsLeaves new (count - inside + 1) × IsMerge now (spelled_leaves new (count - inside + 1)) f
  merge_done f inside h can is some closes =
      let (ys, whole, merge) = merges f h now tree can.some in
      let spelled = merge_spells s new now ys f tree spells whole merge some (subst (λ (m : FragSplits). IsClosed m new f) same closes) in
      let v = is_kept new ys (count - inside + 1) whole spelled (omega (arith, merge.count, is, counted, inside_few f now)) in
      (v.1, subst (λ zs. IsMerge now zs f) (sym v.0) merge)

  pub inside_below : (f : Fragment) (inside : ℕ) → inside ≡ length (leaves_inside f now) → inside ≤ count
  inside_below f inside is = omega (arith, is, counted, inside_few f now)
