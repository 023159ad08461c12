-- Every export goes from one of 16 ranks to another.
use Rattle.export_steps.proofs.Common.{AreBetweenRanks, ExportState, IfSome, IsBetweenRanks, Leaf, None, Option, Some, Standing, StandingExport, ap, come_to, get-empty, get_beside, get_left, get_put, get_removed, inl, inr, not_none, one_value, same_or_apart, subst, sym, ◌∙◌, ◌≡◌, ◌≢◌, ◌⊎◌}
use Rattle.std.specs.FinMap as map

pub empty_between : (standing : Standing) → standing ≡ map.empty → AreBetweenRanks standing
empty_between standing is = record { each = λ leaf its stands. absurd (not_none _ its (ap (λ (m : Standing). map.get m leaf) is ∙ get-empty _ leaf) stands) }

-- what a look-up finds
pub found_between : (standing : Standing) (root : Leaf) (found : Option StandingExport) → AreBetweenRanks standing → found ≡ map.get standing root → IfSome found IsBetweenRanks
found_between standing root None between is = tt
found_between standing root (Some export) between is = between.each root export (sym is)

module _ (old new : Standing) (root : Leaf) (between : AreBetweenRanks old) where
  pub put_between : (export : StandingExport) → new ≡ map.insert old root export → IsBetweenRanks export → AreBetweenRanks new
  put_between export changed its = record { each = λ leaf e stands. at leaf e stands (same_or_apart leaf root) }
    where
      at : (leaf : Leaf) (e : StandingExport) → map.get new leaf ≡ Some e → (leaf ≡ root) ⊎ (leaf ≢ root) → IsBetweenRanks e
      at leaf e stands (inl same) =
          let gets : map.get new root ≡ Some export = ap (λ (m : Standing). map.get m root) changed ∙ get_put old root export in
          subst IsBetweenRanks (one_value _ export e gets (ap (map.get new) (sym same) ∙ stands)) its
      at leaf e stands (inr apart) = between.each leaf e (sym (ap (λ (m : Standing). map.get m leaf) changed ∙ get_beside old root export leaf apart) ∙ stands)

  pub come_between : (export : StandingExport) (state : ExportState) → map.get old root ≡ Some export → new ≡ map.insert old root (come_to state export) → AreBetweenRanks new
  come_between export state stood changed =
      let its = between.each root export stood in
      put_between (come_to state export) changed (record { exporter = its.exporter; importer = its.importer; apart = its.apart })

  pub removed_between : new ≡ map.remove old root → AreBetweenRanks new
  removed_between changed = record { each = λ leaf e stands. at leaf e stands (same_or_apart leaf root) }
    where
      at : (leaf : Leaf) (e : StandingExport) → map.get new leaf ≡ Some e → (leaf ≡ root) ⊎ (leaf ≢ root) → IsBetweenRanks e
      at leaf e stands (inl same) = absurd (not_none _ e (ap (λ (m : Standing). map.get m root) changed ∙ get_removed old root) (ap (map.get new) (sym same) ∙ stands))
      at leaf e stands (inr apart) = between.each leaf e (sym (ap (λ (m : Standing). map.get m leaf) changed ∙ get_left old root leaf apart) ∙ stands)
