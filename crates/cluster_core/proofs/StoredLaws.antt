-- The stand-ins of what rows store continue the history of which the rows tell all.
use Rattle.cluster_core.proofs.Common.{Entry, IsGiven, IsLegalFrom, IsUsedFrom, List, None, Opening, Option, Some, [], after_from, ap, arith, drop, false, inl, inr, length, list_any, refl, since, subst, sym, ℕ, ⊎_elim, ◌++◌, ◌<◌, ◌∙◌, ◌∷◌, ◌≡◌, ◌≤◌, ◌⊎◌, Dentry, Inode, IsIn, get_entry, dentry-total, append-nil, Core}
use Rattle.mds_types.specs.Tree.{Tree}
use Rattle.std.specs.FinMap as map
use Rattle.std.specs.Prelude.{Contains}
use Rattle.std.proofs.Common.{map as list_map, suc, zero}
use Rattle.std.proofs.Math.Seq.{drop-append_seam}
use Rattle.mds_types.specs.History.{IsNew, IsUsed, is_pair, mark}
use Rattle.keeping.specs.Rows.{SessionRows}
use Rattle.sessions.specs.Replies.{AnswerAlike}
use Rattle.sessions.specs.Restored.{IsRestored, IsStoredOf}
use Rattle.sessions.specs.Stored.{Stored, mark_or_none, reply_or_none, stand_ins, stored_of}
use Rattle.sessions.specs.Table.{Table}
use Rattle.sessions.proofs.AlikeLaws.{answer_alike, stands_for}
use Rattle.session_rows.specs.Sessions.{SpellsSessions}
use Rattle.cluster_core.specs.KeptSessions.{Continue, IsSpent, StoredSessionsGoOn, RowsTell, TellsBut, ToldOfStandIns}
use Rattle.cluster_core.specs.Opening.{StandIn}
use Rattle.cluster_core.specs.Resumed.{resumes, supplies_from}
use Rattle.cluster_core.proofs.OpeningLaws.{numbers_from}
use Rattle.cluster_core.proofs.RestartHistory.{one_history}

-- a number of a list of inodes is that of an inode there
number_of_one : (es : List (Dentry × Inode)) (n : ℕ) → Contains (list_map (λ (e : Dentry × Inode). e.1.ino.0) es) n → (e : Dentry × Inode) × IsIn e es × (e.1.ino.0 ≡ n)
number_of_one [] n (k, below, is) = absurd (omega (arith, below))
number_of_one (e ∷ es) n (zero, below, is) = (e, inl refl, is)
number_of_one (e ∷ es) n (suc k, below, is) = let its = number_of_one es n (k, omega (arith, below), is) in (its.0, inr its.1, its.2)

-- what rows say, they say once
abbrev pub OneContent : Type 0
OneContent = (rows : SessionRows) (a b : List Stored) (m n : List ℕ) → SpellsSessions rows a m → SpellsSessions rows b n → (client : ℕ) → stored_of a client ≡ stored_of b client

abbrev pub OneNexts : Type 0
OneNexts = (rows : SessionRows) (a b : List Stored) (m n : List ℕ) → SpellsSessions rows a m → SpellsSessions rows b n → m ≡ n

module _ (limit : ℕ) (opening : Opening) (history : List Entry) (rows : SessionRows) (stored : List Stored) (nexts : List ℕ) (table : Table)
    (legal : IsLegalFrom limit opening history) (told : RowsTell rows opening history)
    (spelled : SpellsSessions rows stored nexts) (restored : IsRestored stored table) (content : OneContent) (one_nexts : OneNexts) where
  abbrev tree : Tree
  tree = after_from limit opening history

  abbrev next : Opening
  next = resumes tree (stand_ins stored) nexts

  -- the stored sessions are those that the rows spell
  same_clients : (client : ℕ) → stored_of told.stored client ≡ stored_of stored client
  same_clients = content rows told.stored stored told.nexts nexts told.spelled spelled

  same_nexts : told.nexts ≡ nexts
  same_nexts = one_nexts rows told.stored stored told.nexts nexts told.spelled spelled

  kept : IsStoredOf history stored
  kept = record {
    marks = λ client. sym (ap mark_or_none (same_clients client)) ∙ told.clients.marks client;
    replies = λ client tid. sym (ap (λ (s : Option Stored). reply_or_none s tid) (same_clients client)) ∙ told.clients.replies client tid;
  }

  alike : AnswerAlike history (stand_ins stored)
  alike = answer_alike history stored table kept told.once restored

  marks : (client : ℕ) → mark (stand_ins stored) client ≡ mark history client
  marks client = sym ((stands_for stored table restored).marks client) ∙ kept.marks client

  -- a request at or above the mark that no stand-in answers is new to both
  pairs : (client tid : ℕ) → mark (stand_ins stored) client ≤ tid → list_any (is_pair client tid) (stand_ins stored) ≡ false → list_any (is_pair client tid) history ≡ false
  pairs client tid marked absent = ((alike.is_new client tid 0).1 (record { marked = marked; own = omega arith; absent = absent })).absent

  numbers : (n : ℕ) → IsUsedFrom opening history n → IsUsedFrom next (stand_ins stored) n
  numbers n used = its (told.numbers n used)
    where
      its : IsSpent told.nexts n → IsUsedFrom next (stand_ins stored) n
      its (inl root) = inr (inl root)
      its (inr given) = inl (subst (λ (ns : List ℕ). IsGiven (supplies_from 0 ns) n) same_nexts given)

  pub stands_in : StandIn opening history next (stand_ins stored)
  stands_in = record { marks = marks; pairs = pairs; numbers = numbers }

  pub continue : Continue limit opening history next (stand_ins stored)
  continue = record {
    alike = alike;
    legal = λ more. one_history limit opening next history (stand_ins stored) legal refl refl stands_in more;
  }

  -- what the stand-ins use, the rows tell to be given
  spent : (n : ℕ) → IsUsedFrom next (stand_ins stored) n → IsSpent nexts n
  spent n (inl given) = inr given
  spent n (inr used) = of_tree (subst (λ (es : List Entry). IsUsed tree es n) (ap (since next) (sym (append-nil (stand_ins stored))) ∙ drop-append_seam (stand_ins stored) []) used)
    where
      of_tree : IsUsed tree [] n → IsSpent nexts n
      of_tree (inl root) = inl root
      of_tree (inr (inl among)) =
          let its = number_of_one (map.entries tree) n among in
          let used : IsUsedFrom opening history n = subst (IsUsedFrom opening history) its.2 (numbers_from limit opening history legal its.0.0 its.0.1 (get_entry dentry-total tree its.0 its.1)) in
          subst (λ (ns : List ℕ). IsSpent ns n) same_nexts (told.numbers n used)
      of_tree (inr (inr (k, x, below, is, took))) = absurd (omega (arith, below))

  -- so the rows tell all of the stand-ins, whichever book has them
  pub told_of : (core : Core) → TellsBut rows next (stand_ins stored) core
  told_of core = record {
    stored = stored;
    nexts = nexts;
    spelled = spelled;
    once = restored.once;
    clients = record { marks = λ client still. (stands_for stored table restored).marks client; replies = λ client tid still. (stands_for stored table restored).replies client tid };
    numbers = λ n used. inr (spent n used);
  }

pub go_on : OneContent → OneNexts → StoredSessionsGoOn
go_on content one_nexts limit opening history rows stored nexts table legal told spelled restored =
    continue limit opening history rows stored nexts table legal told spelled restored content one_nexts

pub told_again : OneContent → OneNexts → ToldOfStandIns
told_again content one_nexts limit opening history rows stored nexts table legal told spelled restored core =
    told_of limit opening history rows stored nexts table legal told spelled restored content one_nexts core
