-- An address that lacks a code can be written with one.
use Rattle.std.proofs.Common.{◌≡◌, ℕ, true, not, ◌&&◌, leb, List, length, is_some, Some, None, arith}
use Rattle.std.proofs.lemmas.Bool.{and_parts, and_from, cond-true, le-leb}
use Rattle.address.specs.declared.codes.PointCode.{PointCode}
use Rattle.address.specs.declared.rewriting.CodeChange.TheVariants.{Put}
use Rattle.address.specs.Code.{code_number}
use Rattle.address.specs.Address.{address_ok, on_subsystem_of, code_of, subsystem_of}
use Rattle.address.specs.Rewrite.{rewrite, rewritten}
use Rattle.outgoing.specs.Addressed.{lacks_code, with_code}

pub completes : (c : PointCode) (a : List ℕ) → lacks_code a ≡ true → rewritten (on_subsystem_of a) (Put c) (subsystem_of a) a ≡ Some (with_code (code_number c) a)
unfolding rewrite
completes c a h =
    let ok = and_parts (address_ok a) (on_subsystem_of a && not (is_some (code_of a))) h in
    let b = with_code (code_number c) a in
    cond-true (address_ok a && leb 2 (length b)) (Some b) None (and_from (address_ok a) (leb 2 (length b)) ok.0 (le-leb 2 (length b) (omega arith)))
