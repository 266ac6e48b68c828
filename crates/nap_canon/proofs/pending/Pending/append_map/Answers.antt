use Rattle.nap_canon.proofs.{Colour, List, Piece, Some, Texts.both_appended, Texts.one_piece, [], colour_prelude, command_piece, grb_bytes, map, opcode, refl, ◌∷◌}
use Rattle.nap_canon.proofs.pending.Pending.append_map.Goals as goal

pub returns : goal.returns
returns c =
    let d = c.args.old.now in
    let ps : List Piece = map command_piece (colour_prelude d.base d.colour (Some (Colour.Front c.args.addr))) in
    let last : Piece = opcode 0x3C (grb_bytes c.args.grb) in
    both_appended ps (last ∷ []) refl c.append_colour_prelude.ensures.appends (one_piece last c.append_set_color.ensures.appends)
