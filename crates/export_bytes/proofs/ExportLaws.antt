-- The laws of the format.
use Rattle.export_bytes.proofs.Common.{Decides, Decides-and, Decides-like, Decodes, Export, Front, HasOneMeaning, IsBytes, List, None, NothingFollows, Option, IsReaderOf, SentFrag, Some, SpellsExport, [], ap, append-nil, bytes_eq-Decides, export_bytes, flat_map, frag_bytes, front_at, guarded, is_export, is_sendable, items_at, length, none-some, parts_at, same_Some, sent_frag_at, sym, ℕ, ◌++◌, ◌∙◌, ◌≡◌}
use Rattle.export_bytes.specs.Reading.{export_of}
use Rattle.export_bytes.proofs.Again.{frags_again, front_again, front_of, parts_again}
use Rattle.export_bytes.proofs.Taken.{parts_taken}

export_decides : (bytes : List ℕ) (e : Export) → Decides (is_export bytes e) (SpellsExport bytes e)
export_decides bytes e =
    Decides-like _ (λ p. record { sendable = p.0; spelled = p.1 }) (λ s. (s.sendable, s.spelled))
    (Decides-and (is_sendable e) _ (λ t. t, λ t. t) (bytes_eq-Decides bytes (export_bytes e)))

pub export_first : (bytes : List ℕ) (e : Export) → SpellsExport bytes e → parts_at bytes ≡ Some e
export_first bytes e s = ap parts_at s.spelled ∙ parts_again e s.sendable

pub reads_export : IsReaderOf SpellsExport export_of
unfolding export_of
reads_export bytes = guarded SpellsExport bytes (parts_at bytes) (is_export bytes) (export_decides bytes) (export_first bytes)

pub one_export : HasOneMeaning SpellsExport
one_export bytes a b s t = same_Some a b (sym (export_first bytes a s) ∙ export_first bytes b t)

same_front : (p q : Front × List ℕ) → p ≡ q → (p.0.count ≡ q.0.count) × (p.1 ≡ q.1)
same_front p q e = (ap (λ (r : Front × List ℕ). r.0.count) e, ap (λ (r : Front × List ℕ). r.1) e)

same_rest : (p q : List SentFrag × List ℕ) → p ≡ q → p.1 ≡ q.1
same_rest p q e = ap (λ (r : List SentFrag × List ℕ). r.1) e

pub no_export_begins_another : NothingFollows SpellsExport
no_export_begins_another bytes more a b s t =
    let of_a : front_at (bytes ++ more) ≡ Some (front_of a, flat_map frag_bytes a.frags ++ more) = ap (λ (x : List ℕ). front_at (x ++ more)) s.spelled ∙ front_again a more s.sendable in
    let of_b : front_at (bytes ++ more) ≡ Some (front_of b, flat_map frag_bytes b.frags ++ []) = ap front_at (t.spelled ∙ sym (append-nil (export_bytes b))) ∙ front_again b [] t.sendable in
    let w = same_front (front_of a, flat_map frag_bytes a.frags ++ more) (front_of b, flat_map frag_bytes b.frags ++ []) (same_Some (front_of a, flat_map frag_bytes a.frags ++ more) (front_of b, flat_map frag_bytes b.frags ++ []) (sym of_a ∙ of_b)) in
    let frags : Some (a.frags, more) ≡ Some (b.frags, []) =
    sym (frags_again a more s.sendable) ∙ ap (λ (n : ℕ). items_at sent_frag_at n (flat_map frag_bytes a.frags ++ more)) w.0 ∙ ap (items_at sent_frag_at (length b.frags)) w.1 ∙ frags_again b [] t.sendable in
    same_rest (a.frags, more) (b.frags, []) (same_Some (a.frags, more) (b.frags, []) frags)

-- ---- what is decoded

pub export_decoded : (bytes : List ℕ) (answer : Option Export) → IsBytes bytes → answer ≡ parts_at bytes → Decodes SpellsExport bytes answer
export_decoded bytes (Some e) fits is = parts_taken bytes e fits (sym is)
export_decoded bytes None fits is = λ e s. none-some e (is ∙ export_first bytes e s)
