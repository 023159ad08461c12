-- The header that is read is the one that is spelled so.
use Rattle.std.proofs.Common.{◌≡◌, ℕ, ◌^◌, ◌<◌, ◌≤◌, ◌&&◌, cond, ltb, eqb, true, List, [], ◌∷◌, ◌++◌, length, Option, Some, None, refl, sym, ap, subst, ◌∙◌, arith}
use Rattle.std.proofs.lemmas.Bool.{eqb-true, and_parts}
use Rattle.std.proofs.lemmas.Bool.Decides.{nat_tests}
use Rattle.std.proofs.lemmas.List.{append-nil, nil_from_length}
use Rattle.std.proofs.lemmas.Option.{cond_some}
use Rattle.byteorder.specs.Endian.{little_bytes}
use Rattle.dirfrag_codec.specs.declared.headers.FragHeader.{FragHeader}
use Rattle.dirfrag_codec.specs.FragHeader.{SpellsHeader, header_bytes}
use Rattle.dirfrag_codec.specs.Grammar.{Decodes}
use Rattle.dirfrag_codec.specs.Reading.{◌>>=◌, Gives, after_tag, number_at, header_read_at}
use Rattle.dirfrag_codec.proofs.Front.{IsBytes, bind_some, number_again, number_takes, tag_takes, width_8}

positive : (n : ℕ) → ltb 0 n ≡ true → 1 ≤ n
positive n e = grind (arith, nat_tests)

joined : (bytes t0 t1 t2 t3 : List ℕ) (header : FragHeader) → bytes ≡ 70 ∷ 1 ∷ t0 → t0 ≡ little_bytes 8 header.version ++ t1 → t1 ≡ little_bytes 8 header.files ++ t2
    → t2 ≡ little_bytes 8 header.dirs ++ t3 → t3 ≡ [] → bytes ≡ header_bytes header
joined bytes t0 t1 t2 t3 header e0 e1 e2 e3 e4 =
    e0 ∙ ap (λ (x : List ℕ). 70 ∷ 1 ∷ x) e1 ∙ ap (λ (x : List ℕ). 70 ∷ 1 ∷ (little_bytes 8 header.version ++ x)) e2
    ∙ ap (λ (x : List ℕ). 70 ∷ 1 ∷ (little_bytes 8 header.version ++ (little_bytes 8 header.files ++ x))) (e3 ∙ ap (λ (x : List ℕ). little_bytes 8 header.dirs ++ x) e4 ∙ append-nil (little_bytes 8 header.dirs))

pub header_takes : (bytes : List ℕ) (header : FragHeader) → IsBytes bytes → header_read_at bytes ≡ Some header → SpellsHeader bytes header
unfolding header_read_at
header_takes bytes header fits e =
    let a = bind_some (after_tag 70 1 bytes) (λ tagged. number_at 8 tagged >>= λ version. number_at 8 version.1 >>= λ files. number_at 8 files.1 >>= λ dirs.
    cond (ltb 0 version.0 && eqb (length dirs.1) 0) (Some (record { version = version.0; files = files.0; dirs = dirs.0 })) None) header e in
    let b = bind_some (number_at 8 a.0) (λ version. number_at 8 version.1 >>= λ files. number_at 8 files.1 >>= λ dirs.
    cond (ltb 0 version.0 && eqb (length dirs.1) 0) (Some (record { version = version.0; files = files.0; dirs = dirs.0 })) None) header a.2 in
    let c = bind_some (number_at 8 b.0.1) (λ files. number_at 8 files.1 >>= λ dirs.
    cond (ltb 0 b.0.0 && eqb (length dirs.1) 0) (Some (record { version = b.0.0; files = files.0; dirs = dirs.0 })) None) header b.2 in
    let d = bind_some (number_at 8 c.0.1) (λ dirs.
    cond (ltb 0 b.0.0 && eqb (length dirs.1) 0) (Some (record { version = b.0.0; files = c.0.0; dirs = dirs.0 })) None) header c.2 in
    let made : FragHeader = record { version = b.0.0; files = c.0.0; dirs = d.0.0 } in
    let g = cond_some (ltb 0 b.0.0 && eqb (length d.0.1) 0) made header d.2 in
    let w = and_parts (ltb 0 b.0.0) (eqb (length d.0.1) 0) g.0 in
    let t0 = tag_takes 70 1 bytes a.0 fits a.1 in
    let t1 = number_takes 8 width_8 a.0 b.0.0 b.0.1 t0.rest_fits b.1 in
    let t2 = number_takes 8 width_8 b.0.1 c.0.0 c.0.1 t1.0.rest_fits c.1 in
    let t3 = number_takes 8 width_8 c.0.1 d.0.0 d.0.1 t2.0.rest_fits d.1 in
    let nothing : d.0.1 ≡ [] = nil_from_length d.0.1 (eqb-true (length d.0.1) 0 w.1) in
    let whole = joined bytes a.0 b.0.1 c.0.1 d.0.1 made t0.parts t1.0.parts t2.0.parts t3.0.parts nothing in
    subst (SpellsHeader bytes) g.1 (record { committed = positive b.0.0 w.0; version = omega (arith, t1.1); files = omega (arith, t2.1); dirs = omega (arith, t3.1); spelled = whole })

header_chain : (t0 t1 t2 : List ℕ) (v f d : ℕ) → number_at 8 t0 ≡ Some (v, t1) → number_at 8 t1 ≡ Some (f, t2) → number_at 8 t2 ≡ Some (d, []) → ltb 0 v ≡ true
    → header_read_at (70 ∷ 1 ∷ t0) ≡ Some (record { version = v; files = f; dirs = d })
unfolding header_read_at
header_chain t0 t1 t2 v f d e0 e1 e2 some = rw (e0, e1, e2, some) refl

pub header_again : (header : FragHeader) → 1 ≤ header.version → header.version < 2 ^ 64 → header.files < 2 ^ 64 → header.dirs < 2 ^ 64 → header_read_at (header_bytes header) ≡ Some header
header_again header some v f d =
    let last : number_at 8 (little_bytes 8 header.dirs) ≡ Some (header.dirs, []) = ap (number_at 8) (sym (append-nil (little_bytes 8 header.dirs))) ∙ number_again 8 header.dirs [] (omega arith) in
    let positive : ltb 0 header.version ≡ true = grind (arith, nat_tests) in
    header_chain (little_bytes 8 header.version ++ (little_bytes 8 header.files ++ little_bytes 8 header.dirs)) (little_bytes 8 header.files ++ little_bytes 8 header.dirs) (little_bytes 8 header.dirs) header.version header.files header.dirs
    (number_again 8 header.version (little_bytes 8 header.files ++ little_bytes 8 header.dirs) (omega arith)) (number_again 8 header.files (little_bytes 8 header.dirs) (omega arith)) last positive

pub header_decoded : (bytes : List ℕ) (answer : Option FragHeader) → IsBytes bytes → Gives (λ (h : FragHeader). h) answer (header_read_at bytes) → Decodes SpellsHeader bytes answer
header_decoded bytes (Some header) fits read = header_takes bytes header fits read
header_decoded bytes None fits read = λ header s.
    let found : header_read_at bytes ≡ Some header = ap header_read_at s.spelled ∙ header_again header s.committed s.version s.files s.dirs in
    absurd cc

pub one_header : (bytes : List ℕ) (a b : FragHeader) → SpellsHeader bytes a → SpellsHeader bytes b → a ≡ b
one_header bytes a b s t =
    let same : Some a ≡ Some b = sym (found a s) ∙ found b t in
    cc
  where
    found : (header : FragHeader) → SpellsHeader bytes header → header_read_at bytes ≡ Some header
    found header s = ap header_read_at s.spelled ∙ header_again header s.committed s.version s.files s.dirs
