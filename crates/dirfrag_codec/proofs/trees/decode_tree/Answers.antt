-- What is read are the leaves, if they are those of a tree.
use Rattle.dirfrag_codec.proofs.Common.{None, SpellsTree, arith, rules, tree_of_bytes}
use Rattle.dirfrag_codec.proofs.RecordLaws.{on_err}
use Rattle.dirfrag_codec.proofs.TileLaws.{no_tree, some_tree}
use Rattle.dirfrag_codec.proofs.TreeLaws.{leaves_refused, one_tree, tree_made, tree_refused, words_takes}
use Rattle.dirfrag_codec.proofs.ValueLaws.{one_reading, reading_answered, reads_tree}
use Rattle.dirfrag_codec.proofs.trees.decode_tree.Goals as goal

pub returns-in_default : goal.returns-in_default
returns-in_default c =
    let spelled = tree_refused c.args.bytes.now c.in_default.ensures in
    record { spelled = spelled; value = one_reading SpellsTree one_tree c.args.bytes.now None (tree_of_bytes c.args.bytes.now) spelled (reads_tree c.args.bytes.now); memory = tt; tree = tt }

pub returns-then-not-are_tree : goal.returns-then-not-are_tree
returns-then-not-are_tree c =
    let spelled = no_tree c.args.bytes.now c.in-Some.words.now c.in-Some.ensures (λ tree. let clash = c.are_tree.ensures.1 tree in search rules) in
    record { spelled = spelled; value = one_reading SpellsTree one_tree c.args.bytes.now None (tree_of_bytes c.args.bytes.now) spelled (reads_tree c.args.bytes.now); memory = tt; tree = tt }

pub returns-in_err-leaves-clause-tree : goal.returns-in_err-leaves-clause-tree
returns-in_err-leaves-clause-tree c = on_err c.from_residual.result (some_tree c.args.bytes.now c.in-Some.words.now (λ i. omega (arith, c.type_inv.bytes i)) c.in-Some.ensures (c.are_tree.ensures.0 (search rules)))

pub returns-in_err-leaves-clause-memory : goal.returns-in_err-leaves-clause-memory
returns-in_err-leaves-clause-memory c = on_err c.from_residual.result (words_takes c.args.bytes.now c.in-Some.words.now (λ i. omega (arith, c.type_inv.bytes i)) c.in-Some.ensures).0

pub returns-in_default-2 : goal.returns-in_default-2
returns-in_default-2 c =
    let spelled = leaves_refused c.args.bytes.now c.in-Some.words.now c.in-Some.ensures (rw c.in_default-2.is at c.in_ok-leaves.ensures) in
    record { spelled = spelled; value = one_reading SpellsTree one_tree c.args.bytes.now None (tree_of_bytes c.args.bytes.now) spelled (reads_tree c.args.bytes.now); memory = tt; tree = tt }

pub returns : goal.returns
returns c =
    let found = rw c.in-Some-2.is at c.in_ok-leaves.ensures in
    let spelled = tree_made c.args.bytes.now c.in-Some.words.now c.in-Some-2.leaves.items c.from_leaves.result (λ i. omega (arith, c.type_inv.bytes i)) c.in-Some.ensures found.0 found.1 (rw c.deref.ensures.value at c.from_leaves.ensures.made) in
    record {
      spelled = spelled;
      value = reading_answered SpellsTree tree_of_bytes one_tree reads_tree c.args.bytes.now c.from_leaves.result spelled;
      memory = on_err c.from_leaves.result (words_takes c.args.bytes.now c.in-Some.words.now (λ i. omega (arith, c.type_inv.bytes i)) c.in-Some.ensures).0;
      tree = on_err c.from_leaves.result (some_tree c.args.bytes.now c.in-Some.words.now (λ i. omega (arith, c.type_inv.bytes i)) c.in-Some.ensures (c.are_tree.ensures.0 (search rules)));
    }
