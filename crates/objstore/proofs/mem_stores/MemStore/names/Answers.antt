use Rattle.std.specs.Prelude.{string_bytes}
use Rattle.objstore.proofs.Common.{List, NameList, Omap, ap, map, sym, ℕ, ◌∙◌}
use Rattle.sorted_map.proofs.OverlayLaws.{none_entries}
use Rattle.objstore.proofs.WriteLemmas.{all_names}
use Rattle.objstore.proofs.mem_stores.MemStore.names.Goals as goal

-- a page as long as the store has all names
pub returns-clause-names : goal.returns-clause-names
returns-clause-names c =
    rw (← c.self.view_is) (c.into_names.ensures ∙ ap (λ (p : NameList). p.names) c.in_ok-all.ensures ∙ all_names _ _ _ c.iter.ensures c.len.ensures.len)

-- an empty store has no names
pub returns-then-is_empty-clause-names : goal.returns-then-is_empty-clause-names
returns-then-is_empty-clause-names c =
    rw (← c.self.view_is)
    (ap (map string_bytes) c.new.ensures.items ∙ ap (map (λ (e : List ℕ × Omap). e.0)) (sym (none_entries _ (c.is_empty.ensures.0 c.if-is_empty.true))))
