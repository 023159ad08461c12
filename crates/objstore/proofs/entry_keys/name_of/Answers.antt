use Rattle.objstore.proofs.Common.{Err, IsName, NameFromBytes, ap, entry_key, subst, sym, ◌∙◌}
use Rattle.objstore.proofs.KeyLemmas.{key_of_front}
use Rattle.objstore.proofs.entry_keys.name_of.Goals as goal

pub returns-in-Ok-clause-named : goal.returns-in-Ok-clause-named
returns-in-Ok-clause-named c =
    let told = c.in-Ok.ensures in
    (subst IsName (sym told.1) told.0, key_of_front c.args.key.now c.in-Some.front.now _ c.in-Some.ensures.cases.0 c.in-Some.ensures.cases.1 ∙ ap entry_key (sym told.1))

-- memory was to be taken for the name in front of `_head`
pub returns-in-Err-NoMemory-clause-memory : goal.returns-in-Err-NoMemory-clause-memory
returns-in-Err-NoMemory-clause-memory c =
    (c.in-Some.front.now, (subst (λ fault. NameFromBytes c.in-Some.front.now (Err fault)) c.in-Err-NoMemory.field-0-is c.in-Err-NoMemory.ensures).0, key_of_front c.args.key.now c.in-Some.front.now _ c.in-Some.ensures.cases.0 c.in-Some.ensures.cases.1)
