-- The laws of the format.
use Rattle.reply_codec.proofs.Common.{Decodes, HasOneMeaning, IsBytes, List, None, NothingFollows, Reply, Some, SpellsReply, [], ap, append-nil, none-some, reply_at, reply_bytes, same_Some, sym, ℕ, ◌++◌, ◌∙◌, ◌≡◌}
use Rattle.reply_codec.proofs.Again.{reply_again}
use Rattle.reply_codec.proofs.Taken.{reply_takes}

-- a reply is read, whatever follows
reply_first : (bytes more : List ℕ) (reply : Reply) → SpellsReply bytes reply → reply_at (bytes ++ more) ≡ Some (reply, more)
reply_first bytes more reply s = ap (λ (x : List ℕ). reply_at (x ++ more)) s.spelled ∙ reply_again reply more s.typed

pub reply_alone : (bytes : List ℕ) (reply : Reply) → SpellsReply bytes reply → reply_at bytes ≡ Some (reply, [])
reply_alone bytes reply s = ap reply_at (sym (append-nil bytes)) ∙ reply_first bytes [] reply s

pub one_reply : HasOneMeaning SpellsReply
one_reply bytes a b s t = ap (λ (p : Reply × List ℕ). p.0) (same_Some (a, []) (b, []) (sym (reply_alone bytes a s) ∙ reply_alone bytes b t))

pub no_reply_begins_another : NothingFollows SpellsReply
no_reply_begins_another bytes more a b s t =
    ap (λ (p : Reply × List ℕ). p.1) (same_Some (a, more) (b, []) (sym (reply_first bytes more a s) ∙ reply_alone (bytes ++ more) b t))

-- ---- what is decoded

pub decoded : (bytes rest : List ℕ) (reply : Reply) → IsBytes bytes → reply_at bytes ≡ Some (reply, rest) → rest ≡ [] → SpellsReply bytes reply
decoded bytes rest reply fits read nothing =
    let t = reply_takes bytes reply rest fits read in
    record { typed = t.0; spelled = t.1.parts ∙ ap (λ (x : List ℕ). reply_bytes reply ++ x) nothing ∙ append-nil (reply_bytes reply) }

pub none_spelled : (bytes : List ℕ) → reply_at bytes ≡ None → Decodes SpellsReply bytes None
none_spelled bytes read = λ reply s. none-some (reply, []) (sym read ∙ reply_alone bytes reply s)

-- more bytes than a reply's
pub more_spelled : (bytes rest : List ℕ) (reply : Reply) → reply_at bytes ≡ Some (reply, rest) → (rest ≡ [] → ⊥) → Decodes SpellsReply bytes None
more_spelled bytes rest reply read more = λ other s. more (ap (λ (p : Reply × List ℕ). p.1) (same_Some (reply, rest) (other, []) (sym read ∙ reply_alone bytes other s)))
