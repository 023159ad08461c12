use Rattle.asking.proofs.ServeLaws.{is_of_serve, refused, served, told_so}
use Rattle.asking.proofs.Common.{Err, Ok, Serve, [], refl, whole_of}
use Rattle.asking.specs.Serves.{receipts_in}
use Rattle.asking.proofs.ReachedLaws.{leads_by}
use Rattle.asking.proofs.serves.serve.Goals as goal

pub served_by-requires : goal.served_by-requires
served_by-requires g c =
    let known = c.is_sound.ensures in
    let old = whole_of known.0 known.1 c.args.book.now in
    let new = whole_of known.0 known.1 c.step.new.self in
    is_of_serve old.core new.core old.history new.history c.args.rank c.requires.0 c.requires.1 c.requires.2 c.in-Ok.answer (c.in-Ok.ensures.stepped known.0 known.1 known.2)

pub returns-in-Ok-clause-served : goal.returns-in-Ok-clause-served
returns-in-Ok-clause-served g c opening past given request rest waits =
    let old = whole_of opening past c.args.book.now in
    let new = whole_of opening past c.step.new.self in
    served old.core new.core old.history new.history c.args.rank request rest waits c.in-Ok.answer c.served_by.result c.served_by.ensures (c.in-Ok.ensures.stepped opening past given) c.in-Ok.ensures.uses

pub returns-in-Err-clause-served : goal.returns-in-Err-clause-served
returns-in-Err-clause-served g c opening past given request rest waits =
    let old = whole_of opening past c.args.book.now in
    let new = whole_of opening past c.step.new.self in
    refused old.core new.core old.history new.history c.args.rank request rest waits c.in-Err.refusal (c.in-Err.ensures.stepped opening past given)

pub returns-in-Ok-clause-reached : goal.returns-in-Ok-clause-reached
returns-in-Ok-clause-reached g c opening past given client tid =
    leads_by client tid (whole_of opening past c.args.book.now) (whole_of opening past c.step.new.self) (Ok c.in-Ok.answer) (Serve c.args.rank) [] (receipts_in (Ok c.served_by.result)) refl (told_so c.in-Ok.answer c.served_by.result c.served_by.ensures) tt
    (c.in-Ok.ensures.stepped opening past given) c.in-Ok.ensures.uses refl (c.in-Ok.ensures.goes_on opening past given).behind.sound

pub returns-in-Err-clause-reached : goal.returns-in-Err-clause-reached
returns-in-Err-clause-reached g c opening past given client tid =
    leads_by client tid (whole_of opening past c.args.book.now) (whole_of opening past c.step.new.self) (Err c.in-Err.refusal) (Serve c.args.rank) [] [] refl refl tt
    (c.in-Err.ensures.stepped opening past given) c.in-Err.ensures.uses refl (c.in-Err.ensures.goes_on opening past given).behind.sound
