-- A pair of an ordered list that passes a test is found at its key.
use Rattle.std.specs.Prelude.{◌≡◌, Bool, true, false, cond, ◌||◌, T, List, [], ◌∷◌, Some, None, refl}
use Rattle.std.proofs.Common.{sym, ap, ◌∙◌}
use Rattle.std.specs.List.{list_any}
use Rattle.std.specs.declared.cmp.Ordering.{Ordering}
use Rattle.std.specs.Ordering.{is_eq, eq_by_cmp}
use Rattle.std.specs.Cmp.{IsTotalOrder, tied_itself}
use Rattle.std.specs.FinMap.{find, is_sorted}
use Rattle.std.specs.FinMap.Entries.{below_all, find_tied}
use Rattle.sorted_map.proofs.Bools.{left_of, right_of}
use Rattle.sorted_map.proofs.MapLaws.{tie}
use Rattle.sorted_map.proofs.PlaceLaws.{less}

-- an entry that passes a test is found at its key
module _ {K X : Type 0} {R : K → K → Ordering} (o : IsTotalOrder R) where
  pub not_found_below : (k : K) (es : List (K × X)) → T (below_all R k es) → find R k es ≡ None
  not_found_below k [] below = refl
  not_found_below k (e ∷ es) below = ap (λ r. cond (is_eq r) (Some e.1) (find R k es)) (less (R k e.0) (left_of _ _ below)) ∙ not_found_below k es (right_of _ _ below)

  pub found_behind : (e f : K × X) (es : List (K × X)) (b : Bool) → eq_by_cmp R f.0 e.0 ≡ b → T (below_all R e.0 es) → find R f.0 es ≡ Some f.1 → find R f.0 (e ∷ es) ≡ Some f.1
  found_behind e f es false apart below found = ap (λ b. cond b (Some e.1) (find R f.0 es)) apart ∙ found
  found_behind e f es true tied below found =
      let nothing : None ≡ Some f.1 = sym (not_found_below e.0 es below) ∙ find_tied R o f.0 e.0 (tie (R f.0 e.0) tied) es ∙ found in
      cc

  pub any_found : (p : K × X → Bool) (es : List (K × X)) → T (is_sorted R es) → list_any p es ≡ true → (e : K × X) × (find R e.0 es ≡ Some e.1) × (p e ≡ true)
  any_found p [] sorted some = cc
  any_found p (e ∷ es) sorted some = go (p e) refl some (any_found p es (right_of _ _ sorted))
    where
      go : (b : Bool) → p e ≡ b → (p e || list_any p es) ≡ true → (list_any p es ≡ true → (f : K × X) × (find R f.0 es ≡ Some f.1) × (p f ≡ true)) → (f : K × X) × (find R f.0 (e ∷ es) ≡ Some f.1) × (p f ≡ true)
      go true is some more = (e, ap (λ r. cond (is_eq r) (Some e.1) (find R e.0 es)) (tied_itself o e.0), is)
      go false is some more =
          let w = more (sym (ap (λ b. b || list_any p es) is) ∙ some) in
          (w.0, found_behind e w.0 es (eq_by_cmp R w.0.0 e.0) refl (left_of _ _ sorted) w.1, w.2)
