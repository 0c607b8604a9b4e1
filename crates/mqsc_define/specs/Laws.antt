-- what holds of the words of a DEFINE
use Rattle.std.specs.Prelude.{◌≡◌, ℕ, ◌<◌, true, false, List, take, slice_get, slice_index, Option, Some, None}
use Rattle.std.specs.List.{list_any}
use Rattle.std.specs.Option.{option_and_then}
use Rattle.mqsc_lex.specs.declared.words.Word.{Word}
use Rattle.qsg_num.specs.declared.seats.Priority.TheVariants as priority
use Rattle.qsg_num.specs.declared.words.Delivery.TheVariants as delivery
use Rattle.qsg_objects.specs.declared.definitions.CfstructDef.{CfstructDef}
use Rattle.qsg_objects.specs.declared.definitions.QlocalDef.{QlocalDef}
use Rattle.mqsc_define.specs.declared.faults.DefineFault.{DefineFault}
use Rattle.mqsc_define.specs.declared.keywords.Object.{Object}
use Rattle.mqsc_define.specs.declared.keywords.Keyword.{Keyword}
use Rattle.mqsc_define.specs.declared.keywords.Keyword.TheVariants as keyword
use Rattle.mqsc_define.specs.Faults.{has_keyword, word_fault}

-- what is wrong with the word at a place, from 0, among the keywords of an object
abbrev pub fault_at : Object → List Word → ℕ → Option DefineFault
fault_at object words place = option_and_then (word_fault object (take place words)) (slice_get words place)

-- It stands at a place, and none stands at a place before.
pub record IsFirstFault (object : Object) (words : List Word) (fault : DefineFault) : Type 0 where
  pub place : ℕ
  pub stands : fault_at object words place ≡ Some fault
  pub first : (before : ℕ) → before < place → fault_at object words before ≡ None

-- no word has this keyword
abbrev pub IsAbsent : Keyword → List Word → Type 0
IsAbsent keyword words = list_any (has_keyword keyword) words ≡ false

-- where a keyword is absent, its default comes
pub record HasStructureDefaults (words : List Word) (d : CfstructDef) : Type 0 where
  pub recover : IsAbsent keyword.Recover words → d.recover ≡ true
  pub threshold_1 : IsAbsent keyword.Offld1th words → slice_index d.rules.threshold 0 ≡ 70
  pub threshold_2 : IsAbsent keyword.Offld2th words → slice_index d.rules.threshold 1 ≡ 80
  pub threshold_3 : IsAbsent keyword.Offld3th words → slice_index d.rules.threshold 2 ≡ 90
  pub size_1 : IsAbsent keyword.Offld1sz words → slice_index d.rules.size_k 0 ≡ 32
  pub size_2 : IsAbsent keyword.Offld2sz words → slice_index d.rules.size_k 1 ≡ 4
  pub size_3 : IsAbsent keyword.Offld3sz words → slice_index d.rules.size_k 2 ≡ 0
  pub dsblock : IsAbsent keyword.Dsblock words → d.dsblock ≡ 262144
  pub dsbufs : IsAbsent keyword.Dsbufs words → d.dsbufs ≡ None
  pub dsexpand : IsAbsent keyword.Dsexpand words → d.dsexpand ≡ None
  pub descr : IsAbsent keyword.Descr words → d.descr ≡ None

pub record HasQueueDefaults (words : List Word) (d : QlocalDef) : Type 0 where
  pub put : IsAbsent keyword.Put words → d.put ≡ true
  pub get : IsAbsent keyword.Get words → d.get ≡ true
  pub defprty : IsAbsent keyword.Defprty words → d.defprty ≡ priority.Zero
  pub defpsist : IsAbsent keyword.Defpsist words → d.defpsist ≡ false
  pub msgdlvsq : IsAbsent keyword.Msgdlvsq words → d.msgdlvsq ≡ delivery.Priority
  pub maxdepth : IsAbsent keyword.Maxdepth words → d.maxdepth ≡ 999999999
  pub maxmsgl : IsAbsent keyword.Maxmsgl words → d.maxmsgl ≡ 4194304
  pub descr : IsAbsent keyword.Descr words → d.descr ≡ None
