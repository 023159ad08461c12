-- What is stored of the clients, and the entries that take the place of those that are forgotten.
use Rattle.std.specs.Prelude.{◌≡◌, ℕ, ◌++◌, ◌==◌, cond, List, [], ◌∷◌, map, Option, Some, None}
use Rattle.mds_types.specs.declared.entries.Entry.{Entry}
use Rattle.mds_types.specs.declared.operations.Op.TheVariants.{Readdir}
use Rattle.mds_types.specs.declared.replies.Reply.{Reply}
use Rattle.mds_types.specs.declared.replies.Reply.TheVariants.{Done}

-- what is stored of a client: its mark, and its replies with their transaction numbers
pub record Stored : Type 0 where
  pub client : ℕ
  pub mark : ℕ
  pub replies : List (ℕ × Reply)

-- an entry in place of one that is forgotten: it has the reply that its client was told, and its client's mark
abbrev pub stand_in : (client mark tid : ℕ) → Reply → Entry
stand_in client mark tid reply = record {
  client = client;
  tid = tid;
  oldest = mark;
  op = Readdir (record { 0 = 1 }) None 1;
  number = None;
  reply = reply;
}

-- the entry that keeps a mark: its transaction number is below it. A mark of 0 needs none
abbrev pub mark_stand_in : (client mark : ℕ) → List Entry
mark_stand_in client mark = cond (mark == 0) [] (stand_in client mark 0 Done ∷ [])

-- the entries of a client: the one of its mark, and one for each reply
abbrev pub stand_ins_of : Stored → List Entry
stand_ins_of s = mark_stand_in s.client s.mark ++ map (λ r. stand_in s.client s.mark r.0 r.1) s.replies

-- the entries of all clients, one after the other
abbrev pub stand_ins : List Stored → List Entry
stand_ins [] = []
stand_ins (s ∷ ss) = stand_ins_of s ++ stand_ins ss

-- the first reply to a transaction number
abbrev pub reply_in : List (ℕ × Reply) → (tid : ℕ) → Option Reply
reply_in [] tid = None
reply_in (r ∷ rs) tid = cond (r.0 == tid) (Some r.1) (reply_in rs tid)

-- what is stored of a client: the first,
abbrev pub stored_of : List Stored → (client : ℕ) → Option Stored
stored_of [] client = None
stored_of (s ∷ ss) client = cond (s.client == client) (Some s) (stored_of ss client)

abbrev pub mark_or_none : Option Stored → ℕ
mark_or_none None = 0
mark_or_none (Some s) = s.mark

abbrev pub reply_or_none : Option Stored → (tid : ℕ) → Option Reply
reply_or_none None tid = None
reply_or_none (Some s) tid = reply_in s.replies tid

-- its mark,
abbrev pub mark_stored : List Stored → (client : ℕ) → ℕ
mark_stored stored client = mark_or_none (stored_of stored client)

-- and its reply to a transaction number
abbrev pub reply_stored : List Stored → (client tid : ℕ) → Option Reply
reply_stored stored client tid = reply_or_none (stored_of stored client) tid

-- each client is there once
abbrev pub AreClientsOnce : List Stored → Type 0
AreClientsOnce [] = Unit {0}
AreClientsOnce (s ∷ ss) = (stored_of ss s.client ≡ None) × AreClientsOnce ss

-- a client with no reply yet,
abbrev pub of_mark : (client mark : ℕ) → Stored
of_mark client mark = record { client = client; mark = mark; replies = [] }

-- and with one more
abbrev pub with_reply : Stored → (tid : ℕ) → Reply → Stored
with_reply s tid reply =
    record { client = s.client; mark = s.mark; replies = s.replies ++ (tid, reply) ∷ [] }
