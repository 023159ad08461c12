-- Each word is a leaf more; where one is no fragment's, or is cut off, there are no leaves.
use Rattle.dirfrag_codec.proofs.Common.{arith, rules}
use Rattle.dirfrag_codec.proofs.TreeLaws.{no_fragment, no_whole_word, none_from_rest, one_more}
use Rattle.dirfrag_codec.proofs.trees.leaves_of.Goals as goal

pub returns-in_default-frag_of : goal.returns-in_default-frag_of
returns-in_default-frag_of c = none_from_rest c.args.words.now c.loop-word.rest.now c.loop-word.leaves.items c.loop-word.invariant.parts
    (no_fragment c.in-Some.word c.loop-word.rest.now c.in-Some.after.now c.in-Some.ensures c.in_default-frag_of.ensures)

pub loop-word-preserved : goal.loop-word-preserved
loop-word-preserved c =
    let w = one_more c.args.words.now c.loop-word.rest.now c.in-Some.after.now c.in-Some.word c.loop-word.leaves.items c.in-Some-frag_of.leaf (λ i. omega (arith, c.type_inv.words i)) c.loop-word.invariant.fragments c.loop-word.invariant.parts
    c.in-Some.ensures c.in-Some-frag_of.ensures.0 c.in-Some-frag_of.ensures.1 in
    rw c.in_ok-push.ensures.items (record { fragments = w.0; parts = w.1 })

pub returns-then-not-is_empty : goal.returns-then-not-is_empty
returns-then-not-is_empty c = none_from_rest c.args.words.now c.loop-word.rest.now c.loop-word.leaves.items c.loop-word.invariant.parts
    (no_whole_word c.loop-word.rest.now c.in_default.ensures (search rules))
