-- the ranges of what is defined
use Rattle.std.specs.Prelude.{◌≡◌, ◌≤◌, true, nat_le, IfSome}
use Rattle.std.specs.List.{list_all}
use Rattle.qsg_objects.specs.declared.definitions.CfstructDef.{CfstructDef}
use Rattle.qsg_objects.specs.declared.definitions.QlocalDef.{QlocalDef}
use Rattle.qsg_objects.specs.declared.definitions.Definition.{Definition}
use Rattle.qsg_objects.specs.declared.definitions.Definition.TheVariants as definition

pub record IsStructureInRange (d : CfstructDef) : Type 0 where
  -- in percent
  pub threshold : list_all (λ n. nat_le n 100) d.rules.threshold ≡ true
  -- in units of 1,024 bytes
  pub size_k : list_all (λ n. nat_le n 64) d.rules.size_k ≡ true
  -- in bytes
  pub smallest_block : 8192 ≤ d.dsblock
  pub largest_block : d.dsblock ≤ 1048576
  pub dsbufs : IfSome d.dsbufs (λ n. n ≤ 9999)

pub record IsQueueInRange (d : QlocalDef) : Type 0 where
  pub maxdepth : d.maxdepth ≤ 999999999
  pub maxmsgl : d.maxmsgl ≤ 104857600

abbrev pub IsInRange : Definition → Type 0
IsInRange (definition.Cfstruct d) = IsStructureInRange d
IsInRange (definition.Qlocal d) = IsQueueInRange d
