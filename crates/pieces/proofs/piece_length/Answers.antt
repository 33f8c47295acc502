use Rattle.pieces.proofs.Cuts.{adds_up}
use Rattle.pieces.proofs.piece_length.Goals as goal

pub returns-in_err-piece_count-clause-adds_up : goal.returns-in_err-piece_count-clause-adds_up
returns-in_err-piece_count-clause-adds_up c = adds_up

pub returns-then-branch-clause-adds_up : goal.returns-then-branch-clause-adds_up
returns-then-branch-clause-adds_up c = adds_up

pub returns-then-length-called-clause-adds_up : goal.returns-then-length-called-clause-adds_up
returns-then-length-called-clause-adds_up c = adds_up

pub returns-clause-adds_up : goal.returns-clause-adds_up
returns-clause-adds_up c = adds_up
