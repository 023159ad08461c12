use Rattle.std.proofs.Common.{List, ap, take, ℕ, ◌∙◌}
use Rattle.std.specs.Cmp.Lexicographic.{slice_cmp}
use Rattle.std.specs.Ordering.{nat_cmp}
use Rattle.mds_types.proofs.PaddedLaws.{by_counts, by_numbers}
use Rattle.mds_types.proofs.short_bytes.Short.compare.Goals as goal

pub returns-then-x-y : goal.returns-then-x-y
returns-then-x-y c =
    c.cmp.ensures
    ∙ by_numbers _ _ _ _ c.self.invariant c.other.invariant c.self.told c.other.told 22 _ _ c.words_of_short-x.ensures c.if-x-y.true
    ∙ ap (λ (xs : List ℕ). slice_cmp nat_cmp xs (take c.other.inside.len c.other.inside.bytes)) c.self.view_is ∙ ap (λ (ys : List ℕ). slice_cmp nat_cmp c.args.self.now ys) c.other.view_is

pub returns : goal.returns
returns c =
    c.cmp-2.ensures
    ∙ by_counts _ _ _ _ c.self.invariant c.other.invariant c.self.told c.other.told (c.words_of_short-x.ensures.alike c.if-x-y.false)
    ∙ ap (λ (xs : List ℕ). slice_cmp nat_cmp xs (take c.other.inside.len c.other.inside.bytes)) c.self.view_is ∙ ap (λ (ys : List ℕ). slice_cmp nat_cmp c.args.self.now ys) c.other.view_is
