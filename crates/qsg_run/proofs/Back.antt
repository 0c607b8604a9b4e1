-- the devices that a rig has again
use Rattle.std.proofs.Common.{◌≡◌, List, Option, Some, None, ap}
use Rattle.std.specs.Prelude.{IfSome, IsSomeAnd, option_map}
use Rattle.qsg_disk.specs.Byte.{Byte}
use Rattle.qsg_devices.specs.Places.{IsGivenBack}

told : {X : Type 0} (bytes : X → List Byte) (b : List Byte) (o : Option X) → IsSomeAnd o (λ x. bytes x ≡ b) → option_map bytes o ≡ Some b
told bytes b None back = absurd back
told bytes b (Some x) back = ap (λ z. Some z) back

pub told_at : {X : Type 0} (bytes : X → List Byte) (there : Option (List Byte)) (old new : Option X) → IsGivenBack bytes there old new → IfSome there (λ b. option_map bytes new ≡ Some b)
told_at bytes None old new back = tt
told_at bytes (Some b) old new back = told bytes b new back
