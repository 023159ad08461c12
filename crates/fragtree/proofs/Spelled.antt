-- The leaves that splits spell, and what a split, a halving and a merge make of them.
use Rattle.std.proofs.Common.{◌≡◌, ◌≢◌, inl, inr, ℕ, zero, suc, ◌+◌, ◌-◌, ◌^◌, ◌<◌, ◌≤◌, List, [], ◌∷◌, length, Some, refl, sym, ap, subst, ◌∙◌, arith}
use Rattle.std.specs.FinMap as map
use Rattle.mds_types.specs.Frag.{Fragment, IsFragment, child_of, span}
use Rattle.mds_types.proofs.Fragments.{child_is_fragment, span-split}
use Rattle.std.proofs.lemmas.Bool.{cases_lt}
use Rattle.fragtree.specs.FragTree.{Tiles, IsTree, HasLeaf, IsSplit, IsMerge, FitsSplit}
use Rattle.fragtree.specs.Descents.{FragSplits, AllSome, Descends, there, on, Ends, IsClosed, IsForgotten, SpellsLeaves, KeepsEnds, Spells, depth, frag_of_hash, fragments_from, halved, spelled_leaves, splits_round}
use Rattle.fragtree.proofs.DescentLaws.{depth-is, joined, kept, rest, rises}
use Rattle.fragtree.proofs.Entries.{after_put, get_beside, get_put}
use Rattle.fragtree.proofs.Ranges.{child_within, span_pos, ends_low}
use Rattle.fragtree.proofs.Rounds.{frag_at-IsFragment, frag_at-alike, frag_at-is, in_or_out, not_within_round, outside, within_round}
use Rattle.fragtree.proofs.Tilings.{between}
-- two leaves of one hash are one
pub use Rattle.fragtree.proofs.TreeLaws.{one_leaf}

fragments_from-is : (bits_of : ℕ → ℕ) (low high : ℕ) (xs : List Fragment) → Tiles low high xs → ((g : Fragment) → HasLeaf xs g → bits_of g.value ≡ g.bits) → fragments_from bits_of (length xs) low ≡ xs
fragments_from-is bits_of low high [] t told = refl
fragments_from-is bits_of low high (f ∷ fs) t told =
    let first : bits_of low ≡ f.bits = ap bits_of (sym t.1) ∙ told f (zero, omega arith, refl) in
    let head : frag_of_hash f.bits low ≡ f = frag_at-is f low t.0 (omega (arith, t.1)) (omega (arith, t.1, span_pos f.bits)) in
    let more : fragments_from bits_of (length fs) (low + span f.bits) ≡ fs =
    fragments_from-is bits_of (low + span f.bits) high fs t.2 (λ g (k, stands, is). told g (suc k, omega (arith, stands), is)) in
    ap (λ b. frag_of_hash b low ∷ fragments_from bits_of (length fs) (low + span b)) first ∙ ap (λ g. g ∷ fragments_from bits_of (length fs) (low + span f.bits)) head ∙ ap (λ ys. f ∷ ys) more

round_some : (s : FragSplits) → AllSome s → (h b nb : ℕ) → splits_round s h b ≡ Some nb → 1 ≤ nb
round_some s some h b nb is = some (frag_of_hash b h) nb is

-- leaves that are spelled are the leaves that the splits spell
pub leaves_of-is : (s : FragSplits) (xs : List Fragment) → IsTree xs → Spells s xs → spelled_leaves s (length xs) ≡ xs
unfolding spelled_leaves
leaves_of-is s xs tree spells = fragments_from-is (λ hash. depth 24 (splits_round s hash) 0) 0 (2 ^ 24) xs tree.tiles (λ g stands.
    let few : g.bits ≤ 24 = (between 0 (2 ^ 24) xs g tree.tiles stands).0.few_bits in
    let e = spells.ends g stands g.value (omega arith) (omega (arith, span_pos g.bits)) in
    depth-is (splits_round s g.value) (round_some s spells.some g.value) 24 g.bits 0 e.descends (e.nothing g.bits (omega arith) few) (omega (arith, few)))

pub is_kept : (s : FragSplits) (xs : List Fragment) (count : ℕ) → IsTree xs → Spells s xs → count ≡ length xs → (spelled_leaves s count ≡ xs) × SpellsLeaves s count
is_kept s xs count tree spells is =
    let same : spelled_leaves s count ≡ xs = ap (spelled_leaves s) is ∙ leaves_of-is s xs tree spells in
    (same, record { tree = subst IsTree (sym same) tree; spells = subst (Spells s) (sym same) spells })

-- what isn't split otherwise round a hash is descended as before
ends_alike : (s : FragSplits) → AllSome s → (h : ℕ) (new : FragSplits) (to : ℕ) → to ≤ 24 → ((b : ℕ) → b ≤ 24 → map.get new (frag_of_hash b h) ≡ map.get s (frag_of_hash b h)) → Ends (splits_round s h) to → Ends (splits_round new h) to
ends_alike s some h new to few same e = record {
  descends = kept (splits_round s h) (round_some s some h) (splits_round new h) to 0 (λ b from below. same b (omega arith)) e.descends;
  nothing = λ b from at_most. same b at_most ∙ e.nothing b from at_most;
}

put_some : (s : FragSplits) (k : Fragment) (x : ℕ) → AllSome s → 1 ≤ x → AllSome (map.insert s k x)
put_some s k x some more g nb is = elim (after_put s k x g nb is) [ inl put ↦ omega (arith, more, put.1) | inr old ↦ some g nb old ]

-- a split
module _ (s : FragSplits) (xs ys : List Fragment) (f : Fragment) (nb : ℕ) (was : IsTree xs) (spells : Spells s xs) (stands : HasLeaf xs f) (fits : FitsSplit f nb) (now : IsTree ys) (split : IsSplit xs ys f nb) where
  ends_in_child : (h : ℕ) → f.value ≤ h → h < f.value + span f.bits → Ends (splits_round (map.insert s f nb) h) (f.bits + nb)
  ends_in_child h low high =
      let e = spells.ends f stands h low high in
      let whole = (between 0 (2 ^ 24) xs f was.tiles stands).0 in
      let beside : (b : ℕ) → b ≢ f.bits → splits_round (map.insert s f nb) h b ≡ splits_round s h b = λ b other. get_beside s f nb (frag_of_hash b h) (λ same. other (ap (λ (k : Fragment). k.bits) same)) in
      let here : splits_round (map.insert s f nb) h f.bits ≡ Some nb = ap (map.get (map.insert s f nb)) (frag_at-is f h whole low high) ∙ get_put s f nb in
      let first = kept (splits_round s h) (round_some s spells.some h) (splits_round (map.insert s f nb) h) f.bits 0 (λ b from below. beside b (λ same. omega (arith, same))) e.descends in
      record {
        descends = joined (splits_round (map.insert s f nb) h) f.bits (f.bits + nb) 0 first (on f.bits nb here (there (f.bits + nb) refl));
        nothing = λ b from few. beside b (λ same. omega (arith, same, fits.some)) ∙ e.nothing b (omega arith) few;
      }

  pub split_spells : Spells (map.insert s f nb) ys
  split_spells = record {
    some = put_some s f nb spells.some fits.some;
    ends = λ g new h low high. elim ((split.leaves g).0 new) [
      | inl old ↦
          let few : g.bits ≤ 24 = (between 0 (2 ^ 24) xs g was.tiles old.0).0.few_bits in
          let other : (b : ℕ) → frag_of_hash b h ≢ f = λ b. outside f h b (λ w. old.1 (one_leaf xs g f h was old.0 stands low high w.0 w.1)) in
          ends_alike s spells.some h (map.insert s f nb) g.bits few (λ b at_most. get_beside s f nb (frag_of_hash b h) (other b)) (spells.ends g old.0 h low high)
      | inr child ↦
          let is : g ≡ child_of f child.0 nb = child.2 in
          let begins : f.value ≤ g.value = omega (arith, ap (λ (k : Fragment). k.value) is) in
          let bits : g.bits ≡ f.bits + nb = ap (λ (k : Fragment). k.bits) is in
          let within = subst (λ (k : Fragment). k.value + span k.bits ≤ f.value + span f.bits) (sym is) (child_within f child.0 nb fits.in_all child.1) in
          subst (Ends (splits_round (map.insert s f nb) h)) (sym bits) (ends_in_child h (omega (arith, begins, low)) (omega (arith, within, high)))
    ];
  }

-- halving a fragment that is split by two bits or more, and that a descent passes
module _ (s : FragSplits) (some : AllSome s) (g : Fragment) (nb h0 : ℕ) (whole : IsFragment g) (is : map.get s g ≡ Some nb) (two : 2 ≤ nb) (fits : g.bits + nb ≤ 24) (low0 : g.value ≤ h0) (high0 : h0 < g.value + span g.bits) (passes : Descends (splits_round s h0) g.bits 0) where
  abbrev left : Fragment
  left = child_of g 0 1

  abbrev right : Fragment
  right = child_of g 1 1

  -- what differs is g and its halves
  elsewhere : (q : Fragment) → q ≢ g → q ≢ left → q ≢ right → map.get (halved s g nb) q ≡ map.get s q
  elsewhere q a b c = get_beside (map.insert (map.insert s g 1) left (nb - 1)) right (nb - 1) q c ∙ get_beside (map.insert s g 1) left (nb - 1) q b ∙ get_beside s g 1 q a

  other_bits : (q k : Fragment) → q.bits ≢ k.bits → q ≢ k
  other_bits q k differ same = differ (ap (λ (f : Fragment). f.bits) same)

  at_g : map.get (halved s g nb) g ≡ Some 1
  at_g =
      get_beside (map.insert (map.insert s g 1) left (nb - 1)) right (nb - 1) g (other_bits g right (λ e. omega (arith, e)))
      ∙ get_beside (map.insert s g 1) left (nb - 1) g (other_bits g left (λ e. omega (arith, e)))
      ∙ get_put s g 1

  -- a hash of g lies in one half
  half_is : (h : ℕ) → g.value ≤ h → h < g.value + span g.bits → splits_round (halved s g nb) h (g.bits + 1) ≡ Some (nb - 1)
  half_is h low high = elim (cases_lt h right.value) [
    | inl first ↦
        ap (map.get (halved s g nb)) (frag_at-is left h (child_is_fragment g 0 1 whole (omega arith) (omega arith)) (omega (arith, low)) (omega (arith, first)))
        ∙ get_beside (map.insert (map.insert s g 1) left (nb - 1)) right (nb - 1) left (λ same. omega (arith, ap (λ (f : Fragment). f.value) same, span_pos (g.bits + 1)))
        ∙ get_put (map.insert s g 1) left (nb - 1)
    | inr second ↦
        ap (map.get (halved s g nb)) (frag_at-is right h (child_is_fragment g 1 1 whole (omega arith) (omega arith)) second (omega (arith, high, span-split g.bits 1 (omega arith))))
        ∙ get_put (map.insert (map.insert s g 1) left (nb - 1)) right (nb - 1)
  ]

  -- the descent of another hash of g passes it too
  passes_too : (h : ℕ) → g.value ≤ h → h < g.value + span g.bits → Descends (splits_round s h) g.bits 0
  passes_too h low high =
      kept (splits_round s h0) (round_some s some h0) (splits_round s h) g.bits 0
      (λ b from below. ap (map.get s) (frag_at-alike g h b whole low high (omega (arith, below)) ∙ sym (frag_at-alike g h0 b whole low0 high0 (omega (arith, below))))) passes

  -- before g and behind the former children of g all is split as before
  beside_g : (h b : ℕ) → b ≢ g.bits → b ≢ g.bits + 1 → splits_round (halved s g nb) h b ≡ splits_round s h b
  beside_g h b not_g not_half = elsewhere (frag_of_hash b h) (other_bits (frag_of_hash b h) g not_g) (other_bits (frag_of_hash b h) left not_half) (other_bits (frag_of_hash b h) right not_half)

  pub halved_passes : (h : ℕ) → g.value ≤ h → h < g.value + span g.bits → Descends (splits_round (halved s g nb) h) (g.bits + 1) 0
  halved_passes h low high =
      let new = splits_round (halved s g nb) h in
      let first : Descends new g.bits 0 = kept (splits_round s h) (round_some s some h) new g.bits 0 (λ b from below. beside_g h b (λ e. omega (arith, e)) (λ e. omega (arith, e))) (passes_too h low high) in
      let here : new g.bits ≡ Some 1 = ap (map.get (halved s g nb)) (frag_at-is g h whole low high) ∙ at_g in
      joined new g.bits (g.bits + 1) 0 first (on g.bits 1 here (there (g.bits + 1) refl))

  inside_g : (h bits : ℕ) → g.value ≤ h → h < g.value + span g.bits → bits ≤ 24 → Ends (splits_round s h) bits → Ends (splits_round (halved s g nb) h) bits
  inside_g h bits low high few e =
      let old = splits_round s h in
      let new = splits_round (halved s g nb) h in
      let here : old g.bits ≡ Some nb = ap (map.get s) (frag_at-is g h whole low high) ∙ is in
      let past : Descends old (g.bits + nb) 0 = joined old g.bits (g.bits + nb) 0 (passes_too h low high) (on g.bits nb here (there (g.bits + nb) refl)) in
      let behind : Descends old bits (g.bits + nb) = rest old (g.bits + nb) bits 0 past e.descends (e.nothing bits (omega arith) few) in
      let beyond : g.bits + nb ≤ bits = rises old bits (g.bits + nb) behind in
      let behind_new : Descends new bits (g.bits + nb) = kept old (round_some s some h) new bits (g.bits + nb) (λ b from below. beside_g h b (λ e. omega (arith, e, from)) (λ e. omega (arith, e, from))) behind in
      let sum : g.bits + 1 + (nb - 1) ≡ g.bits + nb = omega (arith, two) in
      let half : Descends new bits (g.bits + 1) = on (g.bits + 1) (nb - 1) (half_is h low high) (subst (Descends new bits) (sym sum) behind_new) in
      record {
        descends = joined new (g.bits + 1) bits 0 (halved_passes h low high) half;
        nothing = λ b from at_most. beside_g h b (λ e. omega (arith, e, from, beyond, two)) (λ e. omega (arith, e, from, beyond, two)) ∙ e.nothing b from at_most;
      }

  pub halved_keeps : KeepsEnds s (halved s g nb)
  halved_keeps h bits low few e = elim (in_or_out g h) [
    | inl within ↦ inside_g h bits within.0 within.1 few e
    | inr out ↦ ends_alike s some h (halved s g nb) bits few (λ b at_most. elsewhere (frag_of_hash b h) (outside g h b out) (outside left h b (out_of_half out 0 (omega arith))) (outside right h b (out_of_half out 1 (omega arith)))) e
  ]
    where
      out_of_half : ((g.value ≤ h) × (h < g.value + span g.bits) → ⊥) → (i : ℕ) → i < 2 → ((child_of g i 1).value ≤ h) × (h < (child_of g i 1).value + span (g.bits + 1)) → ⊥
      out_of_half out i few w = out (omega (arith, w.0), omega (arith, w.1, child_within g i 1 (omega arith) few))

  pub halved_some : AllSome (halved s g nb)
  halved_some =
      let one = put_some s g 1 some (omega arith) in
      let two_put = put_some (map.insert s g 1) left (nb - 1) one (omega (arith, two)) in
      put_some (map.insert (map.insert s g 1) left (nb - 1)) right (nb - 1) two_put (omega (arith, two))

-- a fragment that a descent passes, with nothing split there or below any more
pub closed : (s new : FragSplits) (f : Fragment) → AllSome s → IsFragment f → Descends (splits_round s f.value) f.bits 0 → IsForgotten s new f → IsClosed s new f
closed s new f some whole passes forgot = record {
  inside = λ h low high. record {
    descends = kept (splits_round s f.value) (round_some s some f.value) (splits_round new h) f.bits 0
        (λ b from below. forgot.kept (frag_of_hash b h) (λ w. omega (arith, w.0, below)) ∙ ap (map.get s) (frag_at-alike f h b whole low high (omega (arith, below)))) passes;
    nothing = λ b from few. forgot.gone (frag_of_hash b h) (frag_at-IsFragment b h few (omega (arith, high, ends_low f whole))) (within_round f h b whole (omega (arith, high, ends_low f whole)) few low high from);
  };
  outside = λ h bits low few apart e. ends_alike s some h new bits few (λ b at_most. forgot.kept (frag_of_hash b h) (λ w. not_within_round f h b whole low at_most apart w)) e;
}

-- a merge
pub merge_spells : (s new : FragSplits) (xs ys : List Fragment) (f : Fragment) → IsTree xs → Spells s xs → IsTree ys → IsMerge xs ys f → AllSome new → IsClosed s new f → Spells new ys
merge_spells s new xs ys f was spells now merge some closes = record {
  some = some;
  ends = λ g stands h low high. elim (in_or_out f h) [
    | inl within ↦
        let one = one_leaf ys f g h now ((merge.leaves f).1 (inr refl)) stands within.0 within.1 low high in
        subst (λ (k : Fragment). Ends (splits_round new h) k.bits) one (closes.inside h within.0 within.1)
    | inr out ↦ elim ((merge.leaves g).0 stands) [
      | inl old ↦
          let fragment = (between 0 (2 ^ 24) xs g was.tiles old.0).0 in
          closes.outside h g.bits (omega (arith, high, ends_low g fragment)) fragment.few_bits out (spells.ends g old.0 h low high)
      | inr same ↦ absurd (out (omega (arith, low, ap (λ (k : Fragment). k.value) same), subst (λ (k : Fragment). h < k.value + span k.bits) same high))
    ]
  ];
}

-- descents that were kept before
pub closed_after : (old s new : FragSplits) (f : Fragment) → KeepsEnds old s → IsClosed s new f → IsClosed old new f
closed_after old s new f keeps closes = record { inside = closes.inside; outside = λ h bits low few apart e. closes.outside h bits low few apart (keeps h bits low few e) }
