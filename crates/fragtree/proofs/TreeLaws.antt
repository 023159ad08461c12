-- What follows from the definitions of trees, picks, splits and merges.
use Rattle.std.proofs.Common.{◌≡◌, ◌≢◌, ◌↔◌, inl, inr, ℕ, zero, ◌+◌, ◌-◌, ◌%◌, ◌^◌, ◌<◌, ◌≤◌, true, false, List, [], ◌∷◌, length, refl, sym, ap, subst, ◌∙◌, arith}
use Rattle.std.proofs.lemmas.List.{get_or_default}
use Rattle.std.proofs.lemmas.List.Elements.{Contains-get_or}
use Rattle.mds_types.specs.Frag.{Fragment, IsFragment, Contains, ContainsFragment, root_fragment, span}
use Rattle.mds_types.specs.declared.refusals.Refusal.{Refusal}
use Rattle.mds_types.specs.declared.refusals.Refusal.TheVariants.{NoMemory, NoSuchFrag, BadSplit, TooManyFrags}
use Rattle.fragtree.specs.FragTree.{Tiles, IsTree, HasLeaf, FitsSplit, IsPick, IsChild, IsSplit, IsMerge, RefusesSplit, RefusesMerge, leaves_inside, lies_inside}
use Rattle.fragtree.proofs.Ranges.{span_pos, ends_before, ends_within, range_from_Contains, Contains-from_range, range_from_inside, range_from_quotient, quotient_from_range, lies_inside-true}
use Rattle.fragtree.proofs.Tilings.{IsPlace, between, in_one, leaf_at, low_le_high, one_place}
-- what is a leaf of a list of them
pub use Rattle.fragtree.proofs.Tilings.{first, first_or_later, later, only_leaf}

-- two leaves of one hash are one
pub one_leaf : (xs : List Fragment) (f g : Fragment) (h : ℕ) → IsTree xs → HasLeaf xs f → HasLeaf xs g → f.value ≤ h → h < f.value + span f.bits → g.value ≤ h → h < g.value + span g.bits → f ≡ g
one_leaf xs f g h tree (i, stands, is) (j, stands2, is2) low high low2 high2 =
    let first : leaf_at xs i ≡ f = get_or_default xs i root_fragment f stands ∙ is in
    let second : leaf_at xs j ≡ g = get_or_default xs j root_fragment g stands2 ∙ is2 in
    let p : IsPlace xs h i = record { stands = stands; begins = omega (arith, ap (λ (k : Fragment). k.value) first); ends = subst (λ (k : Fragment). h < k.value + span k.bits) (sym first) high } in
    let q : IsPlace xs h j = record { stands = stands2; begins = omega (arith, ap (λ (k : Fragment). k.value) second); ends = subst (λ (k : Fragment). h < k.value + span k.bits) (sym second) high2 } in
    sym first ∙ ap (leaf_at xs) (one_place 0 (2 ^ 24) xs h i j tree.tiles p q) ∙ second

-- where the low 24 bits of a hash lie that a leaf contains
pub range_of_leaf : (leaves : List Fragment) (hash : ℕ) (leaf : Fragment) → IsTree leaves → HasLeaf leaves leaf → Contains leaf hash → IsFragment leaf × (leaf.value ≤ hash % 2 ^ 24) × (hash % 2 ^ 24 < leaf.value + span leaf.bits)
range_of_leaf leaves hash leaf tree stands has =
    let whole = (between 0 (2 ^ 24) leaves leaf tree.tiles stands).0 in
    let r = range_from_Contains leaf hash whole has in
    (whole, r.0, r.1)

-- a leaf that contains the hash is its pick
pub pick_from_leaf : (leaves : List Fragment) (hash : ℕ) (leaf : Fragment) → IsTree leaves → HasLeaf leaves leaf → Contains leaf hash → IsPick leaves hash leaf
pick_from_leaf leaves hash leaf tree stands has = record {
  stands = stands;
  contains = has;
  alone = λ other stands2 has2.
      let r = range_of_leaf leaves hash leaf tree stands has in
      let q = range_of_leaf leaves hash other tree stands2 has2 in
      one_leaf leaves other leaf (hash % 2 ^ 24) tree stands2 stands q.1 q.2 r.1 r.2;
}

pub some_pick : (leaves : List Fragment) (hash : ℕ) → IsTree leaves → (leaf : Fragment) × IsPick leaves hash leaf
some_pick leaves hash tree =
    let w = in_one leaves tree.tiles hash in
    (leaf_at leaves w.place, pick_from_leaf leaves hash (leaf_at leaves w.place) tree (Contains-get_or leaves w.place root_fragment w.stands) w.contains)

pub one_pick : (leaves : List Fragment) (hash : ℕ) (f g : Fragment) → IsPick leaves hash f → IsPick leaves hash g → f ≡ g
one_pick leaves hash f g p q = q.alone f p.stands p.contains

pub same_tiles : (low high : ℕ) (xs ys : List Fragment) → Tiles low high xs → Tiles low high ys → ((g : Fragment) → HasLeaf xs g → HasLeaf ys g) → xs ≡ ys
same_tiles low high [] [] t u h = refl
same_tiles low high [] (g ∷ gs) t u h = absurd (omega (arith, t, span_pos g.bits, low_le_high (low + span g.bits) high gs u.2))
same_tiles low high (f ∷ fs) [] t u h = absurd (omega (arith, u, span_pos f.bits, low_le_high (low + span f.bits) high fs t.2))
same_tiles low high (f ∷ fs) (g ∷ gs) t u h =
    let same : g ≡ f = elim (first_or_later g f gs (h f (zero, omega arith, refl))) [
      | inl is ↦ is
      | inr out ↦ absurd (omega (arith, (between (low + span g.bits) high gs f u.2 out).1, t.1, span_pos g.bits))
    ] in
    let rest : Tiles (low + span f.bits) high gs = subst (λ (k : Fragment). Tiles (low + span k.bits) high gs) same u.2 in
    let within : (k : Fragment) → HasLeaf fs k → HasLeaf gs k = λ k stands. elim (first_or_later g k gs (h k (later f k fs stands))) [
      | inl is ↦ absurd (omega (arith, (between (low + span f.bits) high fs k t.2 stands).1, ap (λ (j : Fragment). j.value) is, u.1, span_pos f.bits))
      | inr stays ↦ stays
    ] in
    ap (λ k. k ∷ fs) (sym same) ∙ ap (λ ks. g ∷ ks) (same_tiles (low + span f.bits) high fs gs t.2 rest within)

-- what lies inside is contained, and another
pub inside_iff : (f g : Fragment) → IsFragment f → IsFragment g → (lies_inside f g ≡ true) ↔ (ContainsFragment f g × (g ≢ f))
inside_iff f g hf hg = (
  λ e. let (more, low, high) = range_from_inside f g hf e in
      ((omega arith, quotient_from_range f.value g.value (span f.bits) (span_pos f.bits) hf.justified low high), λ is. omega (arith, more, ap (λ (h : Fragment). h.bits) is)),
  λ (within, other).
      let w = range_from_quotient f.value g.value (span f.bits) (span_pos f.bits) hf.justified within.1 in
      let not_same : g.bits ≤ f.bits → ⊥ = λ le.
      let not_after : f.value < g.value → ⊥ = λ less. omega (arith, ends_before g f hg hf le less, w.1) in
      let bits : g.bits ≡ f.bits = omega (arith, within.0) in
      let values : g.value ≡ f.value = omega (arith, w.0) in
      other (λ i. record { bits = bits i; value = values i }) in
      lies_inside-true f g hf (omega arith) w.0 w.1,
)

module _ (old new : List Fragment) (f : Fragment) (tree : IsTree new) (hash : ℕ) (leaf : Fragment) (p : IsPick old hash leaf) where
  -- after a split a hash of another leaf has its pick, and one of the split leaf has a child of it
  pub pick_after_split : (nb : ℕ) → IsSplit old new f nb → leaf ≢ f → IsPick new hash leaf
  pick_after_split nb s other = pick_from_leaf new hash leaf tree ((s.leaves leaf).1 (inl (p.stands, other))) p.contains

  pub child_after_split : (nb : ℕ) → IsSplit old new f nb → leaf ≡ f → (child : Fragment) → IsPick new hash child → IsChild f nb child
  child_after_split nb s is child q =
      elim ((s.leaves child).0 q.stands) [ inl (stands, other) ↦ absurd (other (p.alone child stands q.contains ∙ is)) | inr is_child ↦ is_child ]

  -- after a merge a hash of a leaf that wasn't merged has its pick, and one of a merged leaf has the merged one
  pub pick_after_merge : IsMerge old new f → lies_inside f leaf ≡ false → IsPick new hash leaf
  pick_after_merge m out = pick_from_leaf new hash leaf tree ((m.leaves leaf).1 (inl (p.stands, out))) p.contains

  pub merged_after_merge : IsTree old → IsMerge old new f → lies_inside f leaf ≡ true → IsPick new hash f
  merged_after_merge was m in_f =
      let stands : HasLeaf new f = (m.leaves f).1 (inr refl) in
      let hf = (between 0 (2 ^ 24) new f tree.tiles stands).0 in
      let w = range_from_inside f leaf hf in_f in
      let v = range_of_leaf old hash leaf was p.stands p.contains in
      let ends = ends_within f leaf hf v.0 (omega (arith, w.0)) w.2 in
      pick_from_leaf new hash f tree stands (Contains-from_range f hash hf (omega (arith, w.1, v.1)) (omega (arith, v.2, ends)))

-- a check, the reason where it fails, and what is asked where it holds
data Turn (Holds : Type 0) (reason : Refusal) (Next : Refusal → Type 0) (a : Refusal) : Type 0 where
  fails : (Holds → ⊥) → a ≡ reason → Turn Holds reason Next a
  holds : Holds → Next a → Turn Holds reason Next a

one_turn : (Holds : Type 0) (reason : Refusal) (Next : Refusal → Type 0) → ((a b : Refusal) → Next a → Next b → a ≡ b) → (a b : Refusal) → Turn Holds reason Next a → Turn Holds reason Next b → a ≡ b
one_turn Holds reason Next one a b (fails not is) (fails not2 is2) = is ∙ sym is2
one_turn Holds reason Next one a b (fails not is) (holds so next) = absurd (not so)
one_turn Holds reason Next one a b (holds so next) (fails not is) = absurd (not so)
one_turn Holds reason Next one a b (holds so next) (holds so2 next2) = one a b next next2

pub one_split_refusal : (leaves : List Fragment) (f : Fragment) (nb : ℕ) (a b : Refusal) → RefusesSplit leaves f nb a → RefusesSplit leaves f nb b → a ≡ b
one_split_refusal leaves f nb a b h k = one_turn _ _ _ (one_turn _ _ _ (one_turn _ _ _ (λ a b p q. p ∙ sym q))) a b (turns a h) (turns b k)
  where
    turns : (a : Refusal) → RefusesSplit leaves f nb a → Turn (HasLeaf leaves f) NoSuchFrag (Turn (FitsSplit f nb) BadSplit (Turn (length leaves - 1 + 2 ^ nb ≤ 4096) TooManyFrags (λ a. a ≡ NoMemory))) a
    turns NoSuchFrag h = fails h refl
    turns BadSplit h = holds h.0 (fails h.1 refl)
    turns TooManyFrags h = holds h.0 (holds h.1 (fails (λ few. omega (arith, few, h.2)) refl))
    turns NoMemory h = holds h.stands (holds h.fits (holds h.few refl))
    turns _ h = absurd h

pub one_merge_refusal : (leaves : List Fragment) (f : Fragment) (a b : Refusal) → RefusesMerge leaves f a → RefusesMerge leaves f b → a ≡ b
one_merge_refusal leaves f a b h k = one_turn _ _ _ (one_turn _ _ _ (λ a b p q. p ∙ sym q)) a b (turns a h) (turns b k)
  where
    turns : (a : Refusal) → RefusesMerge leaves f a → Turn (1 ≤ length (leaves_inside f leaves)) NoSuchFrag (Turn (length (leaves_inside f leaves) ≤ 256) TooManyFrags (λ a. a ≡ NoMemory)) a
    turns NoSuchFrag h = fails (λ some. omega (arith, some, ap (length {A = Fragment}) h)) refl
    turns TooManyFrags h = holds (omega (arith, h)) (fails (λ few. omega (arith, few, h)) refl)
    turns NoMemory h = holds h.some (holds h.few refl)
    turns _ h = absurd h
