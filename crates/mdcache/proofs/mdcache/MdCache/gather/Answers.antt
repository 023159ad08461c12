use Rattle.std.specs.FinMap as map
use Rattle.mdcache.proofs.Common.{IsPageOf, IsThat, Names, here, key_cmp, leaf_of, option_copied, puts, rows_after}
use Rattle.mdcache.proofs.CoreLaws.{cached_so, read_names, read_sound, on_ok, that_live}
use Rattle.mdcache.proofs.mdcache.MdCache.gather.Goals as goal

pub returns-clause-page : goal.returns-clause-page
returns-clause-page g c whole is = on_ok c.gather_at.result (λ has.
    read_names (IsThat c.args.at.now.rank.0 (leaf_of c.args.at.now)) c.args.self.now c.gather_at.new.self c.gather_at.ensures.reads c.requires.sound c.gather_at.ensures.none
    (that_live c.args.self.now c.args.at.now.rank.0 (leaf_of c.args.at.now) c.requires.live)
    (λ (names : Names). IsPageOf (puts key_cmp whole (rows_after (option_copied c.args.after) (map.entries names))) c.gather_at.new.page) c.args.at.now.rank.0 (leaf_of c.args.at.now) (cached_so _ _ (here c.gather_at.new.self.caches c.args.at.now.rank.0 (leaf_of c.args.at.now)) (λ f each. each whole is) has)) c.gather_at.ensures.page

pub returns-clause-sound : goal.returns-clause-sound
returns-clause-sound g c =
    read_sound (IsThat c.args.at.now.rank.0 (leaf_of c.args.at.now)) c.args.self.now c.gather_at.new.self c.gather_at.ensures.reads c.requires.sound c.gather_at.ensures.none
    (that_live c.args.self.now c.args.at.now.rank.0 (leaf_of c.args.at.now) c.requires.live)
