-- What holds of fragments that can be sent, and of where they lie.
use Rattle.std.specs.Prelude.{◌≡◌, ◌≢◌, ◌⊎◌, ℕ, ◌<◌, ◌^◌, true, false, is_some, List, Some}
use Rattle.std.specs.Option.{option_map}
use Rattle.std.specs.List.{AllByRecursion}
use Rattle.std.specs.FinMap as map
use Rattle.mds_types.specs.declared.ids.Rank.{Rank}
use Rattle.mds_types.specs.declared.dirfrags.Dirfrag.{Dirfrag}
use Rattle.mds_types.specs.declared.refusals.Refusal.{Refusal}
use Rattle.mds_types.specs.declared.refusals.Refusal.TheVariants.{NoMemory, TooManyFrags}
use Rattle.mds_types.specs.Leaf.{Leaf, leaf_cmp}
use Rattle.cached_frag.specs.declared.bases.Base.{Base}
use Rattle.cached_frag.specs.declared.bases.Base.TheVariants.{Fresh, Stored}
use Rattle.cached_frag.specs.Cached.{Cached, is_clean}
use Rattle.dentry_cache.specs.Cache.{HasCached, Unsaved}
use Rattle.dentry_cache.specs.CacheMap.{CacheMap, IsFreeFor, here, tabulate, unclean}
use Rattle.export_bytes.specs.declared.exports.Export.{Export}
use Rattle.export_bytes.specs.declared.exports.SentFrag.{SentFrag}
use Rattle.export_bytes.specs.Export.{is_sent_frag}
use Rattle.inode_table.specs.Dirs.{Covers, Homes, IsLive}
use Rattle.export_regions.specs.Regions.{HasTooMany, UncleanLeaves, sent_of, values}

-- two ranks of 16
pub record AreBetween (from to : Rank) : Type 0 where
  pub from_some : from.0 < 16
  pub to_some : to.0 < 16
  pub apart : from.0 ≢ to.0

-- an object that counts has a commit version of 1 at least
abbrev pub HasVersion : Base → Type 0
HasVersion Fresh = Unit {0}
HasVersion (Stored version) = 0 < version

-- a commit version has 64 bits
abbrev pub IsWord : Base → Type 0
IsWord Fresh = Unit {0}
IsWord (Stored version) = version < 2 ^ 64

-- ---- what the cluster knows of its fragments that aren't clean

-- those of a region lie at one rank
abbrev pub AreAtTheirRank : (Leaf → Type 0) → CacheMap → ℕ → Type 0
AreAtTheirRank In c r = (leaf : Leaf) → is_some (map.get (unclean c) leaf) ≡ true → In leaf → IsFreeFor c r leaf

-- each is a live leaf
abbrev pub AreLive : Homes → Covers → UncleanLeaves → Type 0
AreLive homes covers m = (leaf : Leaf) → is_some (map.get m leaf) ≡ true → IsLive homes covers leaf

-- each has a base that a fragment may have
abbrev pub HaveVersions : UncleanLeaves → Type 0
HaveVersions m = (leaf : Leaf) (u : Unsaved) → map.get m leaf ≡ Some u → HasVersion u.base

-- ---- one fragment, and those of a list

-- a fragment can be sent: it isn't clean, and its dirty names are counted in 32 bits
pub record MaySend (f : Cached) : Type 0 where
  pub unclean : is_clean f ≡ false
  pub few : map.len f.dirty < 2 ^ 32
  pub version : HasVersion f.base

-- the fragment of each of these leaves at a rank can be sent
abbrev pub MaySendAll : CacheMap → ℕ → List Leaf → Type 0
MaySendAll c r leaves = AllByRecursion (λ (leaf : Leaf). HasCached (here c r leaf) MaySend) leaves

-- what is sent of a fragment
abbrev pub sent_from : Leaf → Cached → SentFrag
sent_from leaf f = sent_of leaf (record { base = f.base; generation = f.generation; dirty = f.dirty })

-- what is sent of these leaves, by leaf
abbrev pub gathered : CacheMap → ℕ → List Leaf → map.FinMap leaf_cmp SentFrag
gathered c r leaves = tabulate (λ (leaf : Leaf). option_map (sent_from leaf) (here c r leaf)) leaves

-- each of these fragments may be sent
abbrev pub AreSendable : map.FinMap leaf_cmp SentFrag → Type 0
AreSendable m = (leaf : Leaf) (frag : SentFrag) → map.get m leaf ≡ Some frag → is_sent_frag frag ≡ true

-- an export of a root's region by its rank to another, of these leaves
pub record IsExportFrom (c : CacheMap) (leaves : List Leaf) (root : Dirfrag) (to : Rank)
    (export : Export) : Type 0 where
  pub ino : export.ino ≡ root.dir
  pub frag : export.frag ≡ root.frag
  pub exporter : export.exporter ≡ root.rank
  pub importer : export.importer ≡ to
  pub frags : export.frags ≡ values (gathered c root.rank.0 leaves)

-- why a region isn't sent: a fragment of it has too many dirty names, or, where none has, want of memory
abbrev pub MayNotSend : (Leaf → Type 0) → UncleanLeaves → Refusal → Type 0
MayNotSend In m reason = ((reason ≡ TooManyFrags) × HasTooMany In m) ⊎ ((reason ≡ NoMemory) × (HasTooMany In m → ⊥))
