use Rattle.asking.proofs.Common.{Request, inl, inr, refl, subst, whole_of}
use Rattle.asking.specs.Through.{AsksCopy}
use Rattle.asking.proofs.OneLaws.{refused_as_one}
use Rattle.asking.proofs.through.ask_copy.Goals as goal

pub returns-in-Ok-clause-asked : goal.returns-in-Ok-clause-asked
returns-in-Ok-clause-asked g c opening past given =
    subst (λ (r : Request). AsksCopy (whole_of opening past c.args.book.now) (whole_of opening past c.ask_once.new.book) c.args.rank r c.ask_once.result) c.in-Ok.ensures (inl (c.ask_once.ensures.asked opening past given))

pub returns-in-Err-clause-asked : goal.returns-in-Err-clause-asked
returns-in-Err-clause-asked g c opening past given = inr (refl, refl)

pub returns-in-Err-clause-one_thread : goal.returns-in-Err-clause-one_thread
returns-in-Err-clause-one_thread g c opening past given = refused_as_one (whole_of opening past c.args.book.now) (whole_of opening past c.args.book.now) c.args.request.now given.behind.sound refl
