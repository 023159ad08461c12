-- What is known of fragments that aren't clean where a tree is divided among ranks: each has a base that a fragment may have, and lies at the
-- rank that holds its region. What follows for Send.
use Rattle.ranked_tree.proofs.Common.{AreAtTheirRank, At, Base, Bool, CacheMap, Cached, ComesTo, Core, Covers, Dirfrag, Export, ExportState, HasVersion, HaveVersions, Homes, IfErr, IsDivided, IsErrAnd, IsExportOf, IsOfRegion, IsInRegionOf, IsSoundCore, IsTiedAt, Leaf, List, MayNotSend, NearestRoot, None, Omap, Option, Prepared, Refusal, RefusesSend, Regions, Result, Rules, Sends, Sent, Some, SpellsExport, SpellsPrepared, SpellsRegion, Standing, StandingExport, Subtrees, Unsaved, ap, cond, cond_both, false, get_unclean, held_in, holder_is, inr, is_clean, is_freezing, is_imported, none-some, object_of, one_value, option_map, refl, region_holder, rules, same_Some, state_of, subst, sym, true, unclean, unsaved_at, ℕ, ◌∙◌, ◌≡◌}
use Rattle.std.specs.FinMap as map
use Rattle.ranked_tree.proofs.HeldLaws.{may_hold}
use Rattle.ranked_tree.proofs.SubtreeLaws.{over}

-- ---- what is known of each fragment that isn't clean

-- an object that counts spells a fragment, at a commit version of 1 at least
based : (base : Base) (f : Cached) (object : Option Omap) → IsTiedAt base f object → HasVersion base
based base f object tied = search rules

module _ (core : Core) (sound : IsSoundCore core) where
  pub have_versions : HaveVersions (unclean core.caches)
  have_versions leaf u is = go (map.get core.caches.held leaf) refl (sym (get_unclean core.caches leaf) ∙ is)
    where
      go : (o : Option At) → map.get core.caches.held leaf ≡ o → unsaved_at o ≡ Some u → HasVersion u.base
      go None held is = absurd (none-some u is)
      go (Some a) held is =
          cond_both (is_clean a.frag) None (Some (record { base = a.frag.base; generation = a.frag.generation; dirty = a.frag.dirty })) (λ o. o ≡ Some u → HasVersion u.base) (λ clean is. absurd (none-some u is))
          (λ dirty is. subst HasVersion (ap (λ (v : Unsaved). v.base) (same_Some _ u is)) (based a.frag.base a.frag (object_of core.objects leaf.0 leaf.1) (sound.cached leaf a held).tied)) is

-- ---- the region of an export that is frozen and not imported

module _ (core : Core) (regions : Regions) (divided : IsDivided core regions) (root : Leaf) (export : StandingExport) (stands : map.get regions.exports root ≡ Some export) (freezing : is_freezing export.state ≡ true) (own : is_imported export.state ≡ false) where
  -- the exporter holds it,
  pub region_held : (leaf : Leaf) → NearestRoot regions.roots.roots core.homes core.covers leaf root → Rules (state_of core) (held_in regions) leaf export.exporter
  region_held leaf near = (holder_is regions.exports regions.roots.roots core.homes core.covers leaf export.exporter).0 (record {
    root = root;
    nearest = near;
    holds = ap (λ (o : Option StandingExport). region_holder o (map.get regions.roots.roots root)) stands
        ∙ ap (region_holder (Some export)) (divided.stand.placed.ranked root export stands freezing)
        ∙ ap (λ (b : Bool). cond b (Some export.importer) (Some export.exporter)) own;
  })

  -- and no other rank caches a leaf of it
  pub region_here : AreAtTheirRank (IsOfRegion regions.roots.roots core.homes core.covers root) core.caches export.exporter.0
  region_here leaf some near = (may_hold (state_of core) core.caches (held_in regions) divided.owned.held leaf export.exporter (region_held leaf near)).alone

-- ---- a region, over the caches and tables that a call is given

module _ (core : Core) (regions : Regions) (root : Leaf) (export : StandingExport) (caches : CacheMap) (homes : Homes) (covers : Covers) (these : caches ≡ core.caches) (same : homes ≡ core.homes) (alike : covers ≡ core.covers) where
  abbrev pub AllIn : Homes → Covers → Leaf → Type 0
  AllIn h cs leaf = IsOfRegion regions.roots.roots h cs root leaf

  abbrev pub at_root : Dirfrag
  at_root = record { dir = root.0; frag = root.1; rank = export.exporter }

  pub of_tree : (P : CacheMap → Homes → Covers → Type 0) → P caches homes covers → P core.caches core.homes core.covers
  of_tree P holds = subst (λ (k : CacheMap). P k core.homes core.covers) these (over (P caches) core.homes homes core.covers covers (sym same) (sym alike) holds)

  -- what isn't clean of the region of an export that is frozen and not imported lies at the exporter
  pub held_here : IsDivided core regions → map.get regions.exports root ≡ Some export → is_freezing export.state ≡ true → is_imported export.state ≡ false → AreAtTheirRank (AllIn homes covers) caches export.exporter.0
  held_here divided stands freezing own =
      over (λ (h : Homes) (cs : Covers). AreAtTheirRank (AllIn h cs) caches export.exporter.0) homes core.homes covers core.covers same alike
      (subst (λ (k : CacheMap). AreAtTheirRank (AllIn core.homes core.covers) k export.exporter.0) (sym these) (region_here core regions divided root export stands freezing own))

  pub versions_here : IsSoundCore core → HaveVersions (unclean caches)
  versions_here sound = subst (λ (k : CacheMap). HaveVersions (unclean k)) (sym these) (have_versions core sound)

  pub export_here : (value : Export) → IsExportOf (AllIn homes covers) (unclean caches) at_root export.importer value → IsExportOf (IsInRegionOf (state_of core) regions.roots.roots root) (unclean core.caches) at_root export.importer value
  export_here value = of_tree (λ k h cs. IsExportOf (AllIn h cs) (unclean k) at_root export.importer value)

  module _ (stands : map.get regions.exports root ≡ Some export) (prepared : export.state ≡ Prepared) where
    -- a prepared export is refused as its value is
    pub refused_so : (reason : Refusal) → MayNotSend (AllIn homes covers) (unclean caches) reason → RefusesSend (state_of core) regions.roots.roots regions.exports root reason
    refused_so reason may = inr (
      ap (option_map (λ (e : StandingExport). e.state)) stands ∙ ap (λ (s : ExportState). Some s) prepared,
      of_tree (λ k h cs. MayNotSend (AllIn h cs) (unclean k) reason) may,
    )

    -- and its bytes are those of the region
    pub sent_so : (bytes : List ℕ) (sent : Export) → SpellsExport bytes sent → IsExportOf (AllIn homes covers) (unclean caches) at_root export.importer sent → SpellsPrepared (state_of core) regions.roots.roots regions.exports root bytes
    sent_so bytes sent spelled is = record { export = export; stands = stands; prepared = prepared; region = record { export = sent; spelled = spelled; handed = export_here sent is } }

-- ---- Send

-- what is refused with a reason for which this holds
pub refuses : {A : Type 0} (P : Refusal → Type 0) (result : Result A Refusal) (why : Refusal) → IsErrAnd result (λ e. e ≡ why) → P why → IfErr result P
refuses P result why and holds = search rules

-- the export that was found steps, and no other
pub sends : (core : Core) (subtrees : Subtrees) (old new : Standing) (root : Leaf) (bytes : List ℕ) → SpellsPrepared (state_of core) subtrees.roots old root bytes → ComesTo old new root Prepared Sent
    → Sends (record { tree = core; subtrees = subtrees; exports = old }) (record { tree = core; subtrees = subtrees; exports = new }) root bytes
sends core subtrees old new root bytes sent step = record {
  step = step;
  region = subst (λ (e : StandingExport). SpellsRegion (state_of core) subtrees.roots root e bytes) (one_value _ sent.export step.export sent.stands step.stood) sent.region;
}
