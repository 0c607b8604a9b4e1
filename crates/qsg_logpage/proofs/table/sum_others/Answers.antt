use Rattle.std.proofs.Common.{arith}
use Rattle.qsg_num.specs.declared.seats.Member.TheVariants.{One}
use Rattle.qsg_logpage.proofs.Totals.{fits_more}
use Rattle.qsg_logpage.proofs.table.sum_others.Goals as goal

pub overflow_add-pages : goal.overflow_add-pages
overflow_add-pages c = omega (arith, fits_more c.args.unit c.args.items.now c.loop-reservation.reservation-index (record { unit = record { member = One; incarnation = record { number = 0 }; seq = 0 }; pages = 0 }) c.loop-reservation-test.true, c.requires, c.loop-reservation.invariant)
