-- What is written of an export is read again.
use Rattle.export_bytes.proofs.Common.{Base, Bool, Export, Fragment, Fresh, Front, Head, Inode, List, None, Option, SentFrag, SentName, Some, Stored, WritesEntry, [], and_parts, ap, append-nil, append_assoc, arith, base_bytes, base_of, byte_at, cond, drop_at, entry_bytes, eqb, export_bytes, false, flat_map, frag_bytes, frag_of_word, fragment_again, fragment_decides, has_record, sent_inode_at, inode_bytes, is_base_of, is_frag_before, is_fragment, is_name, is_name_before, is_sendable, is_sent_frag, is_sent_name, is_written, items_at, le-ltb, length, length-append, list_all, little_bytes, ltb, ltb-true, name_bytes, not, number_again, number_at, one_written, part_at, present_at, read_as, reads_written, refl, rise, sym, take_at, true, word_low, word_of, written_decides, written_of, written_short, ℕ, ◌&&◌, ◌++◌, ◌<◌, ◌>>=◌, ◌^◌, ◌∙◌, ◌∷◌, ◌≡◌}
use Rattle.export_bytes.specs.Reading.{front_at, head_at, name_at, parts_at, record_at, sent_frag_at, sent_name_at}
use Rattle.export_bytes.proofs.Items.{items_again}

part_again : (x rest : List ℕ) → part_at (length x) (x ++ rest) ≡ Some (x, rest)
part_again x rest =
    let long : ltb (length (x ++ rest)) (length x) ≡ false = le-ltb _ _ (omega (arith, length-append x rest)) in
    rw (long, take_at x rest (length x) refl, drop_at x rest (length x) refl) refl

name_again : (name rest : List ℕ) → is_name name ≡ true → name_at (length name ∷ (name ++ rest)) ≡ Some (name, rest)
unfolding name_at
name_again name rest named =
    ap (λ (r : Option (List ℕ × List ℕ)). r >>= λ part. cond (is_name part.0) (Some part) None) (part_again name rest)
    ∙ ap (λ (b : Bool). cond b (Some (name, rest)) None) named

-- ---- records

record_chain : (x rest : List ℕ) (inode : Inode) → length x < 256 ^ 2 → written_of x ≡ Some inode → record_at (little_bytes 2 (length x) ++ (x ++ rest)) ≡ Some (inode, rest)
unfolding record_at
record_chain x rest inode short read =
    ap (λ (r : Option (ℕ × List ℕ)). (r >>= λ len. part_at len.0 len.1) >>= λ part. written_of part.0 >>= λ i. Some (i, part.1)) (number_again 2 (length x) (x ++ rest) short)
    ∙ ap (λ (r : Option (List ℕ × List ℕ)). r >>= λ part. written_of part.0 >>= λ i. Some (i, part.1)) (part_again x rest)
    ∙ ap (λ (r : Option Inode). r >>= λ i. Some (i, rest)) read

record_short : (inode : Inode) → is_written (entry_bytes inode) inode ≡ true → length (entry_bytes inode) < 256 ^ 2
record_short inode has = written_short (entry_bytes inode) inode ((written_decides (entry_bytes inode) inode).0 has)

record_again : (inode : Inode) (rest : List ℕ) → is_written (entry_bytes inode) inode ≡ true → record_at (little_bytes 2 (length (entry_bytes inode)) ++ (entry_bytes inode ++ rest)) ≡ Some (inode, rest)
record_again inode rest has =
    record_chain (entry_bytes inode) rest inode (record_short inode has) (read_as WritesEntry written_of one_written reads_written (entry_bytes inode) inode ((written_decides (entry_bytes inode) inode).0 has))

inode_again : (o : Option Inode) (rest : List ℕ) → has_record o ≡ true → sent_inode_at (inode_bytes o ++ rest) ≡ Some (o, rest)
inode_again None rest has = refl
inode_again (Some inode) rest has =
    ap present_at (append_assoc (little_bytes 2 (length (entry_bytes inode))) (entry_bytes inode) rest)
    ∙ ap (λ (r : Option (Inode × List ℕ)). r >>= λ i. Some (Some i.0, i.1)) (record_again inode rest has)

-- ---- names

name_chain : (name tail rest : List ℕ) (o : Option Inode) → is_name name ≡ true → sent_inode_at (tail ++ rest) ≡ Some (o, rest) → sent_name_at (length name ∷ ((name ++ tail) ++ rest)) ≡ Some ((name, o), rest)
unfolding sent_name_at
name_chain name tail rest o named read =
    ap (λ (t : List ℕ). name_at (length name ∷ t) >>= λ n. sent_inode_at n.1 >>= λ i. Some ((n.0, i.0), i.1)) (append_assoc name tail rest)
    ∙ ap (λ (r : Option (List ℕ × List ℕ)). r >>= λ n. sent_inode_at n.1 >>= λ i. Some ((n.0, i.0), i.1)) (name_again name (tail ++ rest) named)
    ∙ ap (λ (r : Option (Option Inode × List ℕ)). r >>= λ i. Some ((name, i.0), i.1)) read

pub sent_name_again : (s : SentName) (rest : List ℕ) → is_sent_name s ≡ true → sent_name_at (name_bytes s ++ rest) ≡ Some (s, rest)
sent_name_again s rest sent =
    let w = and_parts (is_name s.0) (has_record s.1) sent in
    name_chain s.0 (inode_bytes s.1) rest s.1 w.0 (inode_again s.1 rest w.1)

-- ---- fragments

frag_again : (f : Fragment) → is_fragment f ≡ true → frag_of_word (word_of f) ≡ Some f
frag_again f is =
    let same = fragment_again f ((fragment_decides f).0 is) in
    ap (λ (g : Fragment). cond (is_fragment g) (Some g) None) same ∙ ap (λ (b : Bool). cond b (Some f) None) is

pub word_fits : (f : Fragment) → is_fragment f ≡ true → word_of f < 256 ^ 4
word_fits f is = word_low f ((fragment_decides f).0 is)

-- a base is read from its byte and its version
record BaseAgain (base : Base) (rest : List ℕ) : Type 0 where
  byte : ℕ
  version : ℕ
  low : version < 256 ^ 8
  byte_read : byte_at (base_bytes base ++ rest) ≡ Some (byte, little_bytes 8 version ++ rest)
  made : base_of byte version ≡ Some base

base_again : (base : Base) (count : ℕ) (rest : List ℕ) → is_base_of base count ≡ true → BaseAgain base rest
base_again Fresh count rest is = record { byte = 0; version = 0; low = omega arith; byte_read = refl; made = refl }
base_again (Stored version) count rest is =
    let w = and_parts (ltb 0 version) (ltb version (2 ^ 64) && ltb 0 count) is in
    let x = and_parts (ltb version (2 ^ 64)) (ltb 0 count) w.1 in
    let low : version < 2 ^ 64 = ltb-true version (2 ^ 64) x.0 in
    record { byte = 1; version = version; low = omega arith; byte_read = refl; made = ap (λ (b : Bool). cond b (Some (Stored version)) None) w.0 }

head_chain : (h : Head) (word b v : ℕ) (t0 t1 t2 t3 t4 t5 : List ℕ) → number_at 8 t0 ≡ Some (h.ino, t1) → number_at 4 t1 ≡ Some (word, t2) → frag_of_word word ≡ Some h.frag → byte_at t2 ≡ Some (b, t3)
    → number_at 8 t3 ≡ Some (v, t4) → base_of b v ≡ Some h.base → number_at 4 t4 ≡ Some (h.count, t5) → is_base_of h.base h.count ≡ true → head_at t0 ≡ Some (h, t5)
unfolding head_at
head_chain h word b v t0 t1 t2 t3 t4 t5 e0 e1 e2 e3 e4 e5 e6 e7 = rw (e0, e1, e2, e3, e4, e5, e6, e7) refl

-- what stands before the names of a fragment
abbrev pub head_of : SentFrag → Head
head_of f = record { ino = f.ino.0; frag = f.frag; base = f.base; count = length f.names }

head_again : (f : SentFrag) (rest : List ℕ) → f.ino.0 < 2 ^ 64 → is_fragment f.frag ≡ true → is_base_of f.base (length f.names) ≡ true → length f.names < 2 ^ 32
    → head_at (little_bytes 8 f.ino.0 ++ (little_bytes 4 (word_of f.frag) ++ (base_bytes f.base ++ (little_bytes 4 (length f.names) ++ rest)))) ≡ Some (head_of f, rest)
head_again f rest ino frag based few =
    let t4 = little_bytes 4 (length f.names) ++ rest in
    let b = base_again f.base (length f.names) t4 based in
    let t2 = base_bytes f.base ++ t4 in
    let t1 = little_bytes 4 (word_of f.frag) ++ t2 in
    head_chain (head_of f) (word_of f.frag) b.byte b.version (little_bytes 8 f.ino.0 ++ t1) t1 t2 (little_bytes 8 b.version ++ t4) t4 rest
    (number_again 8 f.ino.0 t1 (omega (arith, ino))) (number_again 4 (word_of f.frag) t2 (word_fits f.frag frag)) (frag_again f.frag frag) b.byte_read
    (number_again 8 b.version t4 b.low) b.made (number_again 4 (length f.names) rest (omega (arith, few))) based

-- what a fragment that may be sent is
pub record Sent (f : SentFrag) : Type 0 where
  pub ino : f.ino.0 < 2 ^ 64
  pub frag : is_fragment f.frag ≡ true
  pub based : is_base_of f.base (length f.names) ≡ true
  pub few : length f.names < 2 ^ 32
  pub rises : rise is_name_before None f.names ≡ true
  pub named : list_all is_sent_name f.names ≡ true

pub sent_parts : (f : SentFrag) → is_sent_frag f ≡ true → Sent f
sent_parts f is =
    let a = and_parts (ltb f.ino.0 (2 ^ 64) && is_fragment f.frag) _ is in
    let b = and_parts (ltb f.ino.0 (2 ^ 64)) (is_fragment f.frag) a.0 in
    let c = and_parts (is_base_of f.base (length f.names)) _ a.1 in
    let d = and_parts (ltb (length f.names) (2 ^ 32)) _ c.1 in
    let e = and_parts (rise is_name_before None f.names) (list_all is_sent_name f.names) d.1 in
    record { ino = ltb-true f.ino.0 (2 ^ 64) b.0; frag = b.1; based = c.0; few = ltb-true (length f.names) (2 ^ 32) d.0; rises = e.0; named = e.1 }

five_parts : (a b c d n rest : List ℕ) → (a ++ (b ++ (c ++ (d ++ n)))) ++ rest ≡ a ++ (b ++ (c ++ (d ++ (n ++ rest))))
five_parts a b c d n rest =
    append_assoc a (b ++ (c ++ (d ++ n))) rest ∙ ap (λ (t : List ℕ). a ++ t) (append_assoc b (c ++ (d ++ n)) rest) ∙ ap (λ (t : List ℕ). a ++ (b ++ t)) (append_assoc c (d ++ n) rest)
    ∙ ap (λ (t : List ℕ). a ++ (b ++ (c ++ t))) (append_assoc d n rest)

frag_chain : (f : SentFrag) (bytes names rest : List ℕ) → head_at bytes ≡ Some (head_of f, names) → items_at sent_name_at (length f.names) names ≡ Some (f.names, rest) → rise is_name_before None f.names ≡ true
    → sent_frag_at bytes ≡ Some (f, rest)
unfolding sent_frag_at
frag_chain f bytes names rest e0 e1 e2 = rw (e0, e1, e2) refl

pub sent_frag_again : (f : SentFrag) (rest : List ℕ) → is_sent_frag f ≡ true → sent_frag_at (frag_bytes f ++ rest) ≡ Some (f, rest)
sent_frag_again f rest is =
    let s = sent_parts f is in
    let names = flat_map name_bytes f.names in
    ap sent_frag_at (five_parts (little_bytes 8 f.ino.0) (little_bytes 4 (word_of f.frag)) (base_bytes f.base) (little_bytes 4 (length f.names)) names rest)
    ∙ frag_chain f _ (names ++ rest) rest (head_again f (names ++ rest) s.ino s.frag s.based s.few) (items_again sent_name_at name_bytes is_sent_name sent_name_again f.names rest s.named) s.rises

-- ---- the whole

front_chain : (f : Front) (word : ℕ) (t0 t1 t2 t3 t4 t5 : List ℕ) → number_at 8 t0 ≡ Some (f.ino, t1) → number_at 4 t1 ≡ Some (word, t2) → frag_of_word word ≡ Some f.frag → byte_at t2 ≡ Some (f.exporter, t3)
    → byte_at t3 ≡ Some (f.importer, t4) → number_at 4 t4 ≡ Some (f.count, t5) → (ltb f.exporter 16 && (ltb f.importer 16 && not (eqb f.exporter f.importer))) ≡ true → front_at (88 ∷ 2 ∷ t0) ≡ Some (f, t5)
unfolding front_at
front_chain f word t0 t1 t2 t3 t4 t5 e0 e1 e2 e3 e4 e5 e6 = rw (e0, e1, e2, e3, e4, e5, e6) refl

-- what an export that may be sent is
pub record Sendable (e : Export) : Type 0 where
  pub ino : e.ino.0 < 2 ^ 64
  pub frag : is_fragment e.frag ≡ true
  pub ranks : (ltb e.exporter.0 16 && (ltb e.importer.0 16 && not (eqb e.exporter.0 e.importer.0))) ≡ true
  pub few : length e.frags < 2 ^ 32
  pub rises : rise is_frag_before None e.frags ≡ true
  pub sent : list_all is_sent_frag e.frags ≡ true

pub sendable_parts : (e : Export) → is_sendable e ≡ true → Sendable e
sendable_parts e is =
    let a = and_parts (ltb e.ino.0 (2 ^ 64) && is_fragment e.frag) _ is in
    let b = and_parts (ltb e.ino.0 (2 ^ 64)) (is_fragment e.frag) a.0 in
    let c = and_parts (ltb e.exporter.0 16 && (ltb e.importer.0 16 && not (eqb e.exporter.0 e.importer.0))) _ a.1 in
    let d = and_parts (ltb (length e.frags) (2 ^ 32)) _ c.1 in
    let g = and_parts (rise is_frag_before None e.frags) (list_all is_sent_frag e.frags) d.1 in
    record { ino = ltb-true e.ino.0 (2 ^ 64) b.0; frag = b.1; ranks = c.0; few = ltb-true (length e.frags) (2 ^ 32) d.0; rises = g.0; sent = g.1 }

abbrev pub front_of : Export → Front
front_of e = record { ino = e.ino.0; frag = e.frag; exporter = e.exporter.0; importer = e.importer.0; count = length e.frags }

front_parts : (a b d n rest : List ℕ) (x y : ℕ) → (a ++ (b ++ (x ∷ y ∷ (d ++ n)))) ++ rest ≡ a ++ (b ++ (x ∷ y ∷ (d ++ (n ++ rest))))
front_parts a b d n rest x y =
    append_assoc a (b ++ (x ∷ y ∷ (d ++ n))) rest ∙ ap (λ (t : List ℕ). a ++ t) (append_assoc b (x ∷ y ∷ (d ++ n)) rest) ∙ ap (λ (t : List ℕ). a ++ (b ++ (x ∷ y ∷ t))) (append_assoc d n rest)

-- the front and the fragments are read, whatever follows
pub front_again : (e : Export) (rest : List ℕ) → is_sendable e ≡ true → front_at (export_bytes e ++ rest) ≡ Some (front_of e, flat_map frag_bytes e.frags ++ rest)
front_again e rest is =
    let s = sendable_parts e is in
    let n = flat_map frag_bytes e.frags ++ rest in
    let t4 = little_bytes 4 (length e.frags) ++ n in
    let t2 = e.exporter.0 ∷ e.importer.0 ∷ t4 in
    let t1 = little_bytes 4 (word_of e.frag) ++ t2 in
    ap (λ (t : List ℕ). front_at (88 ∷ 2 ∷ t)) (front_parts (little_bytes 8 e.ino.0) (little_bytes 4 (word_of e.frag)) (little_bytes 4 (length e.frags)) (flat_map frag_bytes e.frags) rest e.exporter.0 e.importer.0)
    ∙ front_chain (front_of e) (word_of e.frag) (little_bytes 8 e.ino.0 ++ t1) t1 t2 (e.importer.0 ∷ t4) t4 n
    (number_again 8 e.ino.0 t1 (omega (arith, s.ino))) (number_again 4 (word_of e.frag) t2 (word_fits e.frag s.frag)) (frag_again e.frag s.frag) refl refl (number_again 4 (length e.frags) n (omega (arith, s.few))) s.ranks

pub frags_again : (e : Export) (rest : List ℕ) → is_sendable e ≡ true → items_at sent_frag_at (length e.frags) (flat_map frag_bytes e.frags ++ rest) ≡ Some (e.frags, rest)
frags_again e rest is = items_again sent_frag_at frag_bytes is_sent_frag sent_frag_again e.frags rest (sendable_parts e is).sent

parts_chain : (e : Export) (bytes frags : List ℕ) → front_at bytes ≡ Some (front_of e, frags) → items_at sent_frag_at (length e.frags) frags ≡ Some (e.frags, []) → rise is_frag_before None e.frags ≡ true
    → parts_at bytes ≡ Some e
unfolding parts_at
parts_chain e bytes frags e0 e1 e2 = rw (e0, e1, e2) refl

pub parts_again : (e : Export) → is_sendable e ≡ true → parts_at (export_bytes e) ≡ Some e
parts_again e is =
    let front : front_at (export_bytes e) ≡ Some (front_of e, flat_map frag_bytes e.frags ++ []) = ap front_at (sym (append-nil (export_bytes e))) ∙ front_again e [] is in
    parts_chain e (export_bytes e) (flat_map frag_bytes e.frags ++ []) front (frags_again e [] is) (sendable_parts e is).rises
