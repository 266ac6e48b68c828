use base.Stored.{Coded}
use base.Fml.{Fml, ftrue, fsep, fex}
use denote.RawPtr.{Ptr, block_ptr, null_ptr}
use Rattle.std.specs.{Prelude.◌≡◌, Coded.coded_option, Box.Ownership.box_owns, declared.option.Option.Option, declared.alloc.Global.Global, contracts.impls.GlobalAllocator.TheImpl.ghosts}
use Rattle.std.specs.declared.option.Option.TheVariants.{None, Some}
use Rattle.nap_c.specs.contracts.pieces.Check.{the_row}

-- What C keeps of a page that is checked in pieces.

abbrev pub check_coded : Coded (Option the_row.Denot)
check_coded = coded_option the_row.coded

-- a fact as a formula
abbrev pub as_formula : Type 0 → Fml
as_formula P = fex P (λ _. ftrue)

-- the box at a pointer, and the right to free it
abbrev pub box_at : Global → Ptr → the_row.Denot → Fml
box_at alloc = box_owns (ghosts.dealloc_token alloc) the_row

-- no page at null; else the box at the pointer
abbrev pub page_at : Ptr → Option the_row.Denot → Fml
page_at null_ptr check = as_formula (check ≡ None)
page_at (block_ptr b o) check = fex (Global × the_row.Denot) (λ x. fsep (as_formula (check ≡ Some x.1)) (box_at x.0 (block_ptr b o) x.1))
