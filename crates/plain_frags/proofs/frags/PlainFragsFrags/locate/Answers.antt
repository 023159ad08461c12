use Rattle.plain_frags.proofs.Common.{IsLeafAt, Kept, ap, entries_in, is_directory, known_is, option_copied, refl, subst, sym, ◌∙◌}
use Rattle.plain_frags.proofs.frags.PlainFragsFrags.locate.Goals as goal

pub returns-in_default : goal.returns-in_default
returns-in_default c = sym (known_is _ _ c.self.invariant c.args.dir.0 ∙ ap (λ (k : Kept). is_directory k.tree c.args.dir.0) c.self.view_is) ∙ c.in_default.ensures.at

pub returns : goal.returns
returns c = record {
  at = record {
    dir = refl;
    stands = sym (known_is _ _ c.self.invariant c.args.dir.0 ∙ ap (λ (k : Kept). is_directory k.tree c.args.dir.0) c.self.view_is) ∙ c.in-Some.ensures.at.known;
    leaf = (subst (λ (k : Kept). IsLeafAt k.homes k.covers c.args.dir.0 c.args.hash c.in-Some.leaf.frag (option_copied c.in-Some.leaf.home)) c.self.view_is c.in-Some.ensures.at).pick;
    held = tt;
  };
  entries = c.entries_of-entries.ensures ∙ ap (λ (k : Kept). entries_in k.tree c.args.dir.0) c.self.view_is;
}
