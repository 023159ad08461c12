-- What one list says of a leaf once it has heard news of it.
use Rattle.subtree_map.proofs.Common.{Bool, Claim, Claimed, Ended, Entry, Handed, Hint, Known, News, None, Nothing, Option, Promised, Rank, Some, Withdrawn, ap, claim_of, claimed, cond, demoted, entry_or_nothing, false, heard, known_after, adds_row, promised, promised_after, refl, row_by, said, sym, true, ◌∙◌, ◌≡◌}

claims_row : (e : Entry) (known : Known) (p : Option Rank) → e.known ≡ known → said claimed (row_by e known p) ≡ claim_of e.known
claims_row e Nothing None is = ap claim_of (sym is)
claims_row e Nothing (Some rank) is = refl
claims_row e (Claim rank) p is = refl
claims_row e (Hint rank) p is = refl

promises_row : (e : Entry) (known : Known) (p : Option Rank) → e.promised ≡ p → said promised (row_by e known p) ≡ e.promised
promises_row e Nothing None is = sym is
promises_row e Nothing (Some rank) is = refl
promises_row e (Claim rank) p is = refl
promises_row e (Hint rank) p is = refl

-- a list without a row says nothing
pub claims_entry : (o : Option Entry) → claim_of (entry_or_nothing o).known ≡ said claimed o
claims_entry None = refl
claims_entry (Some e) = refl

pub promises_entry : (o : Option Entry) → (entry_or_nothing o).promised ≡ said promised o
promises_entry None = refl
promises_entry (Some e) = refl

after : Option Entry → Bool → News → Entry
after o own news = record { known = known_after (entry_or_nothing o).known own news; promised = promised_after (entry_or_nothing o).promised own news }

claims_heard : (o : Option Entry) (own : Bool) (news : News) → said claimed (heard o own news) ≡ claim_of (known_after (entry_or_nothing o).known own news)
unfolding after
claims_heard o own news = claims_row (after o own news) (known_after (entry_or_nothing o).known own news) (promised_after (entry_or_nothing o).promised own news) refl

promises_heard : (o : Option Entry) (own : Bool) (news : News) → said promised (heard o own news) ≡ promised_after (entry_or_nothing o).promised own news
unfolding after
promises_heard o own news = promises_row (after o own news) (known_after (entry_or_nothing o).known own news) (promised_after (entry_or_nothing o).promised own news) refl

-- ---- claims

pub claims_claimed : (o : Option Entry) (own : Bool) (rank : Rank) → said claimed (heard o own (Claimed rank)) ≡ cond own (Some rank) None
claims_claimed o own rank = claims_heard o own (Claimed rank) ∙ go own (entry_or_nothing o).known
  where
    go : (b : Bool) (known : Known) → claim_of (cond b (Claim rank) (demoted known rank)) ≡ cond b (Some rank) None
    go true known = refl
    go false Nothing = refl
    go false (Claim was) = refl
    go false (Hint was) = refl

pub claims_handed : (o : Option Entry) (own : Bool) (rank : Rank) → said claimed (heard o own (Handed rank)) ≡ cond own (Some rank) None
claims_handed o own rank = claims_heard o own (Handed rank) ∙ sym (claims_heard o own (Claimed rank)) ∙ claims_claimed o own rank

pub claims_ended : (o : Option Entry) (own : Bool) → said claimed (heard o own Ended) ≡ None
claims_ended o own = claims_heard o own Ended

pub claims_promised : (o : Option Entry) (own : Bool) (rank : Rank) → said claimed (heard o own (Promised rank)) ≡ said claimed o
claims_promised o own rank = claims_heard o own (Promised rank) ∙ claims_entry o

pub claims_withdrawn : (o : Option Entry) (own : Bool) → said claimed (heard o own Withdrawn) ≡ said claimed o
claims_withdrawn o own = claims_heard o own Withdrawn ∙ claims_entry o

-- ---- promises

pub promises_claimed : (o : Option Entry) (own : Bool) (rank : Rank) → said promised (heard o own (Claimed rank)) ≡ said promised o
promises_claimed o own rank = promises_heard o own (Claimed rank) ∙ promises_entry o

pub promises_handed : (o : Option Entry) (own : Bool) (rank : Rank) → said promised (heard o own (Handed rank)) ≡ None
promises_handed o own rank = promises_heard o own (Handed rank)

pub promises_ended : (o : Option Entry) (own : Bool) → said promised (heard o own Ended) ≡ said promised o
promises_ended o own = promises_heard o own Ended ∙ promises_entry o

pub promises_promised : (o : Option Entry) (own : Bool) (rank : Rank) → said promised (heard o own (Promised rank)) ≡ cond own (Some rank) None
promises_promised o own rank = promises_heard o own (Promised rank)

pub promises_withdrawn : (o : Option Entry) (own : Bool) → said promised (heard o own Withdrawn) ≡ None
promises_withdrawn o own = promises_heard o own Withdrawn

-- ---- where a row comes in

pub ended_makes : (o : Option Entry) (own : Bool) → adds_row o (heard o own Ended) ≡ false
ended_makes None own = refl
ended_makes (Some e) own = refl

pub withdrawn_makes : (o : Option Entry) (own : Bool) → adds_row o (heard o own Withdrawn) ≡ false
withdrawn_makes None own = refl
withdrawn_makes (Some e) own = refl

-- only where the list had none
pub handed_makes : (o : Option Entry) (own : Bool) (rank : Rank) → adds_row o (heard o own (Handed rank)) ≡ true → (own ≡ true) × (o ≡ None)
handed_makes None true rank made = (refl, refl)
handed_makes None false rank made = let clash : false ≡ true = made in absurd cc
handed_makes (Some e) own rank made = let clash : false ≡ true = made in absurd cc
