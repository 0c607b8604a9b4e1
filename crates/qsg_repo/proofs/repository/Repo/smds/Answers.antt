use Rattle.std.proofs.Common.{◌≡◌, ◌-◌, refl, arith}
use Rattle.qsg_num.specs.Seats.{member_number, structure_number}
use Rattle.qsg_repo.proofs.repository.Repo.smds.Goals as goal

pub returns : goal.returns
returns c =
    let structure : c.index.result ≡ structure_number c.args.structure - 1 = omega (arith, c.index.ensures.value) in
    let member : c.index-2.result ≡ member_number c.args.member - 1 = omega (arith, c.index-2.ensures.value) in
    rw (← c.self.view_is, structure, member) refl
