-- What each step came to, from what its parts did.
use Rattle.export_steps.proofs.Common.{ArePlaced, ComesTo, Err, ExportState, Frozen, IfErr, Imported, IsFinish, IsFreeze, IsPrep, IsSome, Leaf, NoMemory, None, Ok, OnErr, OnOk, Option, Prepared, Rank, Refusal, Result, Some, Standing, StandingExport, Started, Starts, Subtrees, WrongExportState, ap, come_to, false, inl, inr, is_freezing, is_prepared, is_some, refl, ◌≡◌}
use Rattle.std.specs.FinMap as map

is_none : {A : Type 0} (o : Option A) → is_some o ≡ false → o ≡ None
is_none None absent = refl
is_none (Some x) absent = cc

module _ (old new : Standing) (root : Leaf) where
  -- an export of the root stands
  pub not_started : (exporter importer : Rank) → IsSome (map.get old root) → Starts old old root exporter importer (Err WrongExportState)
  not_started exporter importer stands = (inl (refl, stands), refl)

  -- none stands, and one is recorded where there is memory
  pub started : (exporter importer : Rank) (result : Result (Unit {0}) Refusal) → is_some (map.get old root) ≡ false → OnOk result (new ≡ map.insert old root (record { exporter = exporter; importer = importer; state = Started }))
      → IfErr result (λ reason. reason ≡ NoMemory) → OnErr result (new ≡ old) → Starts old new root exporter importer result
  started exporter importer (Ok done) absent changed why left = (is_none _ absent, changed)
  started exporter importer (Err reason) absent changed why left = (inr (why, is_none _ absent), left)

  pub advanced : (from to : ExportState) (export : StandingExport) → map.get old root ≡ Some export → export.state ≡ from → new ≡ map.insert old root (come_to to export) → ComesTo old new root from to
  advanced from to export stood was changed = record { export = export; stood = stood; was = was; changed = changed }

  pub frozen : (was now : Subtrees) (export : StandingExport) → map.get old root ≡ Some export → export.state ≡ Started → new ≡ map.insert old root (come_to Frozen export) → now.roots ≡ map.insert was.roots root export.exporter
      → now.promises ≡ was.promises → IsFreeze old new was now root
  frozen was now export stood state changed roots promises = record {
    step = record { export = export; stood = stood; was = state; changed = changed };
    roots = roots;
    promises = promises;
  }

  pub prepared : (was now : Subtrees) (export : StandingExport) → map.get old root ≡ Some export → export.state ≡ Frozen → new ≡ map.insert old root (come_to Prepared export) → now.roots ≡ was.roots
      → now.promises ≡ map.insert was.promises root export.importer → IsPrep old new was now root
  prepared was now export stood state changed roots promises = record {
    step = record { export = export; stood = stood; was = state; changed = changed };
    roots = roots;
    promises = promises;
  }

  -- an imported export is placed
  pub is_root : (was : Subtrees) (export : StandingExport) → map.get old root ≡ Some export → export.state ≡ Imported → ArePlaced old was → IsSome (map.get was.roots root)
  is_root was export stood state placed = ap is_some (placed.ranked root export stood (ap is_freezing state))

  pub is_promised : (was : Subtrees) (export : StandingExport) → map.get old root ≡ Some export → export.state ≡ Imported → ArePlaced old was → map.get was.promises root ≡ Some export.importer
  is_promised was export stood state placed = placed.promised root export stood (ap is_prepared state)

  pub finished : (was now : Subtrees) (export : StandingExport) → map.get old root ≡ Some export → export.state ≡ Imported → ArePlaced old was
      → ((rank : Rank) → map.get was.promises root ≡ Some rank → now.roots ≡ map.insert was.roots root rank) → now.promises ≡ map.remove was.promises root → new ≡ map.remove old root → IsFinish old new was now root
  finished was now export stood state placed roots promises ended = record {
    export = export;
    stood = stood;
    imported = state;
    ended = ended;
    roots = roots export.importer (is_promised was export stood state placed);
    promises = promises;
  }
