-- The bytes of a sent export, told anew.
use Rattle.ranked_tree.proofs.Common.{CacheMap, Core, Covers, Dirfrag, Export, ExportState, Homes, IsExportOf, IsOfRegion, Leaf, List, MayNotSend, Refusal, Regions, Sent, Some, SpellsExport, StandingExport, ap, inr, option_map, state_of, unclean, ℕ, ◌∙◌, ◌≡◌}
use Rattle.std.specs.FinMap as map
use Rattle.ranked_tree.specs.SentBytes.{RefusesSentBytes, SpellsSent}
use Rattle.ranked_tree.proofs.SendLaws.{at_root, export_here, of_tree}

module _ (core : Core) (regions : Regions) (root : Leaf) (export : StandingExport) (caches : CacheMap) (homes : Homes) (covers : Covers) (these : caches ≡ core.caches) (same : homes ≡ core.homes) (alike : covers ≡ core.covers) where
  abbrev from : Dirfrag
  from = at_root core regions root export caches homes covers these same alike

  module _ (stands : map.get regions.exports root ≡ Some export) (sent : export.state ≡ Sent) where
    -- a sent export is refused as its value is
    pub untold_so : (reason : Refusal) → MayNotSend (IsOfRegion regions.roots.roots homes covers root) (unclean caches) reason → RefusesSentBytes (state_of core) regions.roots.roots regions.exports root reason
    untold_so reason may = inr (
      ap (option_map (λ (e : StandingExport). e.state)) stands ∙ ap (λ (s : ExportState). Some s) sent,
      of_tree core regions root export caches homes covers these same alike (λ k h cs. MayNotSend (IsOfRegion regions.roots.roots h cs root) (unclean k) reason) may,
    )

    -- and its bytes are those of the region
    pub told_so : (bytes : List ℕ) (value : Export) → SpellsExport bytes value → IsExportOf (IsOfRegion regions.roots.roots homes covers root) (unclean caches) from export.importer value → SpellsSent (state_of core) regions.roots.roots regions.exports root bytes
    told_so bytes value spelled is = record {
      export = export;
      stands = stands;
      sent = sent;
      region = record { export = value; spelled = spelled; handed = export_here core regions root export caches homes covers these same alike value is };
    }
