-- Purges one after the other.
use Rattle.mdcache.proofs.Common.{ArePurged, Keys, List, None, Ok, PurgesName, Some, State, [], ap, arith, cond, empty_of_len, false, first_name, get_left, get_removed, inl, inr, is_some, len-entries, len-remove, length, ltb-false, ltb-true, nat_list_cmp_total, nat_lt, option_map, refl, shown_tree, slice_get, subst, sym, true, ℕ, ⊎_elim, ◌-◌, ◌<◌, ◌∙◌, ◌∷◌, ◌≡◌}
use Rattle.std.specs.FinMap as map
use Rattle.dirfrag_codec.proofs.ByteKeys.{same_or_apart}
use Rattle.mdcache.proofs.ObjectLaws.{first_stands}

-- where a name waits there is a first one
none_first : (names : Keys) → first_name names ≡ None → map.len names ≡ 0
none_first names none = len-entries names ∙ elim (map.entries names) as (λ es. option_map (λ (e : List ℕ × Unit {0}). e.0) (slice_get es 0) ≡ None → length es ≡ 0) [
  | [] ↦ λ h. refl
  | e ∷ es ↦ λ h. let clash : Some e.0 ≡ None = h in absurd cc
] none

-- where none waits the list is empty
pub no_names : (names : Keys) → nat_lt 0 (map.len names) ≡ false → names ≡ map.empty
no_names names none = let few = ltb-false 0 (map.len names) none in empty_of_len names (omega (arith, few))

module _ (old now new : State) (so_far : ArePurged old now) (some : nat_lt 0 (map.len now.purge) ≡ true) (before after : ℕ) where
  pub purged_more : PurgesName now new before after (first_name now.purge) (Ok tt) → ArePurged old new × (map.len new.purge < map.len now.purge)
  purged_more is = elim (first_name now.purge) as (λ o. first_name now.purge ≡ o → PurgesName now new before after o (Ok tt) → ArePurged old new × (map.len new.purge < map.len now.purge)) [
    | None ↦ λ none done. let one = ltb-true 0 (map.len now.purge) some in let nothing = none_first now.purge none in absurd (omega (arith, one, nothing))
    | Some name ↦ λ first its.
        let stands = first_stands now.purge name first in
        subst (λ (k : State). ArePurged old k × (map.len k.purge < map.len now.purge)) (sym its.0) (
          record {
            left = ap (λ (s : State). record s { objects = map.remove now.objects name; purge = map.remove now.purge name }) so_far.left;
            tree = sym (ap shown_tree its.0) ∙ its.1 ∙ so_far.tree;
            others = λ q none.
                let w = so_far.others q none in
                let apart : q ≡ name → ⊥ = λ same. let clash : false ≡ true = ap is_some (sym w.1 ∙ ap (map.get now.purge) same) ∙ stands in cc in
                (get_left now.objects name q apart ∙ w.0, get_left now.purge name q apart ∙ w.1);
            gone = λ q off. elim (same_or_apart q name) [
              | inl same ↦ inr (ap (map.get (map.remove now.objects name)) same ∙ get_removed now.objects name)
              | inr other ↦ ⊎_elim (λ none. inl none) (λ none. inr (get_left now.objects name q other ∙ none)) (so_far.gone q (sym (get_left now.purge name q other) ∙ off))
            ];
          },
          let less : map.len (map.remove now.purge name) ≡ map.len now.purge - 1 = len-remove nat_list_cmp_total now.purge name ∙ ap (λ b. cond {A = ℕ} b (map.len now.purge - 1) (map.len now.purge)) stands in
              let one = ltb-true 0 (map.len now.purge) some in
              omega (arith, less, one),
        )
  ] refl is
