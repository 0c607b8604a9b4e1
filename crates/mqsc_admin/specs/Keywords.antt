-- keywords, and what the value of each has to be
use Rattle.std.specs.Prelude.{ℕ, List, codes}
use Rattle.mqsc_admin.specs.declared.keywords.Object.{Object}
use Rattle.mqsc_admin.specs.declared.keywords.Object.TheVariants as object
use Rattle.mqsc_admin.specs.declared.keywords.Keyword.{Keyword}
use Rattle.mqsc_admin.specs.declared.keywords.Keyword.TheVariants as keyword
use Rattle.mqsc_admin.specs.declared.keywords.Form.{Form}
use Rattle.mqsc_admin.specs.declared.keywords.Form.TheVariants as form

-- a keyword, in capitals
abbrev pub text_of : Keyword → List ℕ
text_of keyword.Cfstruct = codes "CFSTRUCT"
text_of keyword.Exclint = codes "EXCLINT"
text_of keyword.Type = codes "TYPE"
text_of keyword.Smds = codes "SMDS"
text_of keyword.Access = codes "ACCESS"
text_of keyword.Status = codes "STATUS"

-- what the value of a keyword has to be
abbrev pub form_of_value : Keyword → Form
form_of_value keyword.Cfstruct = form.StructureName
form_of_value keyword.Exclint = form.Interval
form_of_value keyword.Type = form.NormalOrPurge
form_of_value keyword.Smds = form.MemberName
form_of_value keyword.Access = form.EnabledOrDisabled
form_of_value keyword.Status = form.FailedOrRecovered

-- what the value of an object of DISPLAY has to be
abbrev pub form_of_name : Object → Form
form_of_name object.Cfstatus = form.StructureName
form_of_name object.Queue = form.QueueName
form_of_name object.Smds = form.AllMembers
