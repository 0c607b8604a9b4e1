use Rattle.std.proofs.Common.{◌∙◌, ap, sym, length, ◌++◌, ◌∷◌, [], arith}
use Rattle.std.proofs.lemmas.List.FromFn.{map-range_with_len_more, length-map-range_with_len}
use Rattle.qsg_directives.specs.Bodies.{byte_at}
use Rattle.qsg_directives.proofs.bodies.sized.Goals as goal

pub loop-i-preserved : goal.loop-i-preserved
loop-i-preserved c = (
  c.in_ok-push.ensures.items
      ∙ ap (λ items. items ++ byte_at c.loop-i.i ∷ []) c.loop-i.invariant.0
      ∙ sym (map-range_with_len_more byte_at 0 c.loop-i.i c.loop-i.i (omega arith)),
  omega arith,
)

pub from_bytes-requires : goal.from_bytes-requires
from_bytes-requires c = let h = ap length (c.from_vec.ensures ∙ c.loop-i.invariant.0) in let n = length-map-range_with_len byte_at 0 c.loop-i.i in omega (arith, h, n)
