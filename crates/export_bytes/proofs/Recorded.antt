-- Whether an inode has a record, as it is told.
use Rattle.export_bytes.proofs.Common.{Bool, HasWidths, Inode, IsRecordable, IsTrue, Option, Some, ap, entry_bytes, false, has_record, is_written, refl, sym, true, written_decides, ◌↔◌, ◌∙◌, ◌≡◌}

pub told_recorded : (inode : Inode) (told : Bool) → HasWidths inode → IsTrue told ↔ IsRecordable inode → told ≡ is_written (entry_bytes inode) inode
told_recorded inode told widths is = go told refl (is_written (entry_bytes inode) inode) refl
  where
    go : (t : Bool) → told ≡ t → (r : Bool) → is_written (entry_bytes inode) inode ≡ r → told ≡ is_written (entry_bytes inode) inode
    go true it r _ = it ∙ sym ((written_decides (entry_bytes inode) inode).1 (record { allowed = is.0 it; widths = widths; spelled = refl }))
    go false it true has = is.1 ((written_decides (entry_bytes inode) inode).0 has).allowed ∙ sym has
    go false it false has = it ∙ sym has

-- an inode that has a record is one that a record allows
pub recordable : (found : Option Inode) (inode : Inode) → found ≡ Some inode → has_record found ≡ true → IsRecordable inode
recordable found inode is has = ((written_decides (entry_bytes inode) inode).0 (ap has_record (sym is) ∙ has)).allowed
