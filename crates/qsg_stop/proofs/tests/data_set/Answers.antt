use Rattle.std.proofs.Common.{length, ◌≡◌, arith}
use Rattle.qsg_stop.proofs.tests.data_set.Goals as goal

pub new-requires : goal.new-requires
new-requires c =
    let size : length c.in_ok-device.device.cells ≡ 6144 = c.in_ok-device.ensures in
    (4, record { some_bytes = omega arith; some_blocks = omega arith; most_blocks = omega arith; exact = size })
