-- The purge list, where a leaf was split and where leaves were merged.
use Rattle.mdcache.proofs.Common.{Contains, Frag, Fragment, Ino, IsChild, IsFragment, IsListedAnew, Keys, List, NameChildren, None, Some, [], ap, arith, child_is_fragment, child_of, get_beside, get_left, get_put, get_removed, inl, inr, key_or_apart, refl, subst, suc, sym, text_of, texts_differ, without_objects, zero, ℕ, ⊎_elim, ◌+◌, ◌<◌, ◌^◌, ◌∙◌, ◌∷◌, ◌≡◌, ◌≤◌}
use Rattle.std.specs.FinMap as map
use Rattle.mdcache.proofs.SplitLaws.{only_one}

-- what isn't on the list stays off it
stays_off : (names : Keys) (texts : List (List ℕ)) (q : List ℕ) → map.get names q ≡ None → map.get (without_objects names texts) q ≡ None
stays_off names [] q none = none
stays_off names (text ∷ texts) q none =
    stays_off (map.remove names text) texts q (⊎_elim (λ same. ap (map.get (map.remove names text)) same ∙ get_removed names text) (λ apart. get_left names text q apart ∙ none) (key_or_apart q text))

-- a name that was taken off isn't on it,
is_off : (names : Keys) (texts : List (List ℕ)) (q : List ℕ) → Contains texts q → map.get (without_objects names texts) q ≡ None
is_off names [] q (k, within, is) = absurd (omega (arith, within))
is_off names (text ∷ texts) q (zero, within, is) = stays_off (map.remove names text) texts q (ap (map.get (map.remove names text)) (sym is) ∙ get_removed names text)
is_off names (text ∷ texts) q (suc k, within, is) = is_off (map.remove names text) texts q (k, omega (arith, within), is)

-- and any other is as it was
is_left : (names : Keys) (texts : List (List ℕ)) (q : List ℕ) → (Contains texts q → ⊥) → map.get (without_objects names texts) q ≡ map.get names q
is_left names [] q none = refl
is_left names (text ∷ texts) q none =
    is_left (map.remove names text) texts q (λ has. none (suc has.0, let within = has.1 in omega (arith, within), has.2))
    ∙ get_left names text q (λ same. none (zero, omega arith, sym same))

-- a split's list: the leaf's object is on it, the children's are not, and of other names nothing changes
pub listed_anew : (old : Keys) (dir : Ino) (frag : Fragment) (nb : ℕ) (texts : List (List ℕ)) (Came : Fragment → Type 0) → dir.0 < 2 ^ 64 → IsFragment frag → 1 ≤ nb → frag.bits + nb ≤ 24 → NameChildren dir frag nb texts
    → ((g : Fragment) → Came g → IsChild frag nb g) → ((i : ℕ) → i < 2 ^ nb → Came (child_of frag i nb)) → IsListedAnew old (without_objects (map.insert old (text_of (dir, frag)) tt) texts) dir (frag ∷ []) Came
listed_anew old dir frag nb texts Came small valid some few named is_child comes = record {
  ended = λ g has. subst (λ (h : Fragment). map.get (without_objects (map.insert old (text_of (dir, frag)) tt) texts) (text_of (dir, h)) ≡ Some tt) (only_one frag g has)
      (is_left (map.insert old (text_of (dir, frag)) tt) texts (text_of (dir, frag)) (λ has.
      let child = named.only (text_of (dir, frag)) has in
      let names : Frag dir frag ≡ Frag dir (child_of frag child.0 nb) = texts_differ (Frag dir frag) (Frag dir (child_of frag child.0 nb)) (small, valid) (small, child_is_fragment frag child.0 nb valid few child.1) child.2 in
      let one : frag ≡ child_of frag child.0 nb = cc in
      let bits : frag.bits ≡ frag.bits + nb = ap (λ (g : Fragment). g.bits) one in
      omega (arith, bits, some)) ∙ get_put old (text_of (dir, frag)) tt);
  came = λ g came. let child = is_child g came in
      is_off (map.insert old (text_of (dir, frag)) tt) texts (text_of (dir, g)) (subst (λ (h : Fragment). Contains texts (text_of (dir, h))) (sym child.2) (named.each child.0 child.1));
  others = λ name none.
      is_left (map.insert old (text_of (dir, frag)) tt) texts name (λ has. let child = named.only name has in none (child_of frag child.0 nb) (inr (comes child.0 child.1)) child.2)
      ∙ get_beside old (text_of (dir, frag)) tt name (none frag (inl (zero, omega arith, refl)));
}
