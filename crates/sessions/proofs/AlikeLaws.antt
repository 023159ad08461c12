-- The history that clients were told answers each request as the one that it was stored of.
use Rattle.sessions.proofs.Common.{refl, Bool, false, false≢true, is_from, le_from_is_le, nat_cmp, true, ArePairsOnce, Entry, IsAsideFor, IsReplyPlace, IsRestored, IsStoredOf, List, None, Option, Reply, Some, Stored, Table, ap, arith, aside_in, cond, inl, inr, is_pair, is_some, kept_in, list_any, mark, reply_to, same_Some, stand_in, subst, sym, stand_ins, ℕ, ⊎_elim, ◌<◌, ◌∙◌, ◌≡◌, ◌≤◌}
use Rattle.mds_types.specs.History.{IsNew}
use Rattle.mds_types.specs.declared.replies.Reply.TheVariants.{Done}
use Rattle.sessions.specs.Replies.{AnswerAlike}
use Rattle.sessions.proofs.ReplyLaws.{none_replied, replied, reply_of_pair}
use Rattle.sessions.proofs.StoredLaws.{asides}
use Rattle.sessions.proofs.TableLaws.{is_from_le}

module _ (stored : List Stored) (table : Table) (h : IsRestored stored table) where
  -- what is set aside is what the stand-in entries have
  told_aside : (q tid : ℕ) → mark (stand_ins stored) q ≤ tid → reply_to (stand_ins stored) q tid ≡ aside_in table q tid
  told_aside q tid low = go (kept_in table q tid) (aside_in table q tid) (h.tabled.replies q tid) (asides (stand_ins stored) table h.tabled h.aside q tid)
    where
      go : (o : Option ℕ) (a : Option Reply) → IsReplyPlace (stand_ins stored) q tid o → IsAsideFor (stand_ins stored) table.forgotten o a → reply_to (stand_ins stored) q tid ≡ a
      go None None k s = none_replied q tid (stand_ins stored) (k low)
      go None (Some reply) k s = absurd s
      go (Some place) None (_, stands) s = absurd (omega (arith, stands.in_range, s, h.aside.before))
      go (Some place) (Some reply) (_, stands) (_, is) =
          let d : Entry = stand_in 0 0 0 Done in reply_of_pair q tid (stand_ins stored) place d h.once stands ∙ ap Some (sym (is d))

  -- nothing is below a mark
  above : (q tid : ℕ) (o : Option ℕ) (a : Option Reply) → IsReplyPlace (stand_ins stored) q tid o → IsAsideFor (stand_ins stored) table.forgotten o a → is_from nat_cmp (mark (stand_ins stored) q) tid ≡ false → a ≡ None
  above q tid None None k s below = refl
  above q tid None (Some reply) k s below = absurd s
  above q tid (Some place) a (low, stands) s below = absurd (false≢true (sym below ∙ is_from_le low))

  -- so what was stored is what they keep
  pub stands_for : IsStoredOf (stand_ins stored) stored
  stands_for = record {
    marks = λ q. sym (h.marks q) ∙ h.tabled.marks q;
    replies = λ q tid. sym (h.replies q tid) ∙ go q tid (is_from nat_cmp (mark (stand_ins stored) q) tid) refl;
  }
    where
      go : (q tid : ℕ) (b : Bool) → is_from nat_cmp (mark (stand_ins stored) q) tid ≡ b → aside_in table q tid ≡ cond b (reply_to (stand_ins stored) q tid) None
      go q tid true low = sym (told_aside q tid (le_from_is_le (mark (stand_ins stored) q) tid low))
      go q tid false below = above q tid (kept_in table q tid) (aside_in table q tid) (h.tabled.replies q tid) (asides (stand_ins stored) table h.tabled h.aside q tid) below

module _ (history : List Entry) (stored : List Stored) (table : Table) (kept : IsStoredOf history stored) (once : ArePairsOnce history) (h : IsRestored stored table) where
  marks : (q : ℕ) → mark (stand_ins stored) q ≡ mark history q
  marks q = sym (h.tabled.marks q) ∙ h.marks q ∙ kept.marks q

  -- what is set aside is what the history keeps
  set_aside : (q tid : ℕ) → mark history q ≤ tid → aside_in table q tid ≡ reply_to history q tid
  set_aside q tid low = h.replies q tid ∙ kept.replies q tid ∙ ap (λ b. cond b (reply_to history q tid) None) (is_from_le low)

  alike : (q tid : ℕ) → mark history q ≤ tid → reply_to (stand_ins stored) q tid ≡ reply_to history q tid
  alike q tid low = told_aside stored table h q tid (subst (λ m. m ≤ tid) (sym (marks q)) low) ∙ set_aside q tid low

  there : (q tid : ℕ) → mark history q ≤ tid → list_any (is_pair q tid) (stand_ins stored) ≡ list_any (is_pair q tid) history
  there q tid low = sym (replied q tid (stand_ins stored)) ∙ ap is_some (alike q tid low) ∙ replied q tid history

  pub answer_alike : AnswerAlike history (stand_ins stored)
  answer_alike = record {
    trimmed = λ q tid oldest.
        (⊎_elim (λ below. inl (subst (λ m. tid < m) (sym (marks q)) below)) inr, ⊎_elim (λ below. inl (subst (λ m. tid < m) (marks q) below)) inr);
    is_new = λ q tid oldest. (new_there q tid oldest, new_here q tid oldest);
    kept = λ q tid oldest place other e one two.
        same_Some _ _ (sym (reply_of_pair q tid history place e once one.at) ∙ sym (alike q tid one.marked) ∙ reply_of_pair q tid (stand_ins stored) other e h.once two.at);
  }
    where
      new_there : (q tid oldest : ℕ) → IsNew history q tid oldest → IsNew (stand_ins stored) q tid oldest
      new_there q tid oldest new =
          record { marked = subst (λ m. m ≤ tid) (sym (marks q)) new.marked; own = new.own; absent = there q tid new.marked ∙ new.absent }

      new_here : (q tid oldest : ℕ) → IsNew (stand_ins stored) q tid oldest → IsNew history q tid oldest
      new_here q tid oldest new =
          let low = subst (λ m. m ≤ tid) (marks q) new.marked in
          record { marked = low; own = new.own; absent = sym (there q tid low) ∙ new.absent }
