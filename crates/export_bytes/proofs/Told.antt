-- What is answered where memory is wanting.
use Rattle.export_bytes.proofs.Common.{Decodes, Err, Export, IfOk, Inode, IsBytes, IsSome, List, None, Ok, OnErr, Option, Result, Some, SpellsExport, WritesEntry, WritesLink, export_of, is_some, none-some, parts_at, reads_written, refl, sym, true, written_of, ℕ, ◌∙◌, ◌≡◌}
use Rattle.export_bytes.proofs.ExportLaws.{export_first, reads_export}
use Rattle.export_bytes.proofs.Taken.{parts_taken}

-- the record of a link is one
pub link_read : (bytes : List ℕ) → WritesLink bytes → true ≡ is_some (written_of bytes)
link_read bytes (inode, spelled, link) = go (written_of bytes) (reads_written bytes)
  where
    go : (o : Option Inode) → Decodes WritesEntry bytes o → true ≡ is_some o
    go (Some found) d = refl
    go None d = absurd (d inode spelled)

module _ {E : Type 0} (bytes : List ℕ) where
  -- no export's parts, so no export
  pub none_spelled : (answer : Result (Option Export) E) → IfOk answer (λ a. (a ≡ None) × (parts_at bytes ≡ None)) → IfOk answer (Decodes SpellsExport bytes)
  none_spelled (Ok None) h = λ e s. none-some e (sym h.1 ∙ export_first bytes e s)
  none_spelled (Ok (Some e)) h = absurd (none-some e (sym h.0))
  none_spelled (Err e) h = tt

  pub some_export : (answer : Result (Option Export) E) → IsBytes bytes → OnErr answer (IsSome (parts_at bytes)) → OnErr answer (IsSome (export_of bytes))
  some_export (Ok a) fits h = tt
  some_export (Err e) fits h = go (parts_at bytes) refl h
    where
      known : (e : Export) (o : Option Export) → SpellsExport bytes e → Decodes SpellsExport bytes o → IsSome o
      known e (Some found) s d = refl
      known e None s d = absurd (d e s)

      go : (o : Option Export) → parts_at bytes ≡ o → IsSome o → IsSome (export_of bytes)
      go (Some e) is h = known e (export_of bytes) (parts_taken bytes e fits is) (reads_export bytes)
      go None is h = absurd cc
