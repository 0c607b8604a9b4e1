-- the tables of DEFINE: objects, their keywords, and what the value of each has to be
use Rattle.std.specs.Prelude.{ℕ, List, [], ◌∷◌, codes}
use Rattle.mqsc_define.specs.declared.faults.Required.{Required}
use Rattle.mqsc_define.specs.declared.faults.Required.TheVariants as required
use Rattle.mqsc_define.specs.declared.keywords.Object.{Object}
use Rattle.mqsc_define.specs.declared.keywords.Object.TheVariants as object
use Rattle.mqsc_define.specs.declared.keywords.Keyword.{Keyword}
use Rattle.mqsc_define.specs.declared.keywords.Keyword.TheVariants as keyword
use Rattle.mqsc_define.specs.declared.keywords.Form.{Form}
use Rattle.mqsc_define.specs.declared.keywords.Form.TheVariants as form

-- a required keyword, in capitals
abbrev pub text_of_required : Required → List ℕ
text_of_required required.Cflevel = codes "CFLEVEL"
text_of_required required.Offload = codes "OFFLOAD"
text_of_required required.Dsgroup = codes "DSGROUP"
text_of_required required.Qsgdisp = codes "QSGDISP"
text_of_required required.Cfstruct = codes "CFSTRUCT"
text_of_required required.Smds = codes "SMDS"
text_of_required required.Access = codes "ACCESS"

-- a keyword, in capitals
abbrev pub text_of_keyword : Keyword → List ℕ
text_of_keyword keyword.Cflevel = codes "CFLEVEL"
text_of_keyword keyword.Offload = codes "OFFLOAD"
text_of_keyword keyword.Dsgroup = codes "DSGROUP"
text_of_keyword keyword.Recover = codes "RECOVER"
text_of_keyword keyword.Offld1th = codes "OFFLD1TH"
text_of_keyword keyword.Offld2th = codes "OFFLD2TH"
text_of_keyword keyword.Offld3th = codes "OFFLD3TH"
text_of_keyword keyword.Offld1sz = codes "OFFLD1SZ"
text_of_keyword keyword.Offld2sz = codes "OFFLD2SZ"
text_of_keyword keyword.Offld3sz = codes "OFFLD3SZ"
text_of_keyword keyword.Dsblock = codes "DSBLOCK"
text_of_keyword keyword.Dsbufs = codes "DSBUFS"
text_of_keyword keyword.Dsexpand = codes "DSEXPAND"
text_of_keyword keyword.Descr = codes "DESCR"
text_of_keyword keyword.Qsgdisp = codes "QSGDISP"
text_of_keyword keyword.Cfstruct = codes "CFSTRUCT"
text_of_keyword keyword.Put = codes "PUT"
text_of_keyword keyword.Get = codes "GET"
text_of_keyword keyword.Defprty = codes "DEFPRTY"
text_of_keyword keyword.Defpsist = codes "DEFPSIST"
text_of_keyword keyword.Msgdlvsq = codes "MSGDLVSQ"
text_of_keyword keyword.Maxdepth = codes "MAXDEPTH"
text_of_keyword keyword.Maxmsgl = codes "MAXMSGL"
text_of_keyword keyword.Share = codes "SHARE"
text_of_keyword keyword.Noreplace = codes "NOREPLACE"
text_of_keyword keyword.Defsopt = codes "DEFSOPT"

-- the keywords of an object
abbrev pub keywords_of : Object → List Keyword
keywords_of object.Cfstruct =
    keyword.Cflevel ∷ keyword.Offload ∷ keyword.Dsgroup ∷ keyword.Recover
    ∷ keyword.Offld1th ∷ keyword.Offld2th ∷ keyword.Offld3th ∷ keyword.Offld1sz ∷ keyword.Offld2sz ∷ keyword.Offld3sz
    ∷ keyword.Dsblock ∷ keyword.Dsbufs ∷ keyword.Dsexpand ∷ keyword.Descr ∷ []
keywords_of object.Qlocal =
    keyword.Qsgdisp ∷ keyword.Cfstruct ∷ keyword.Put ∷ keyword.Get ∷ keyword.Defprty ∷ keyword.Defpsist
    ∷ keyword.Msgdlvsq ∷ keyword.Maxdepth ∷ keyword.Maxmsgl
    ∷ keyword.Share ∷ keyword.Noreplace ∷ keyword.Defsopt ∷ keyword.Descr ∷ []

-- the keywords that an object can't do without, in order
abbrev pub required_of : Object → List Required
required_of object.Cfstruct = required.Cflevel ∷ required.Offload ∷ required.Dsgroup ∷ []
required_of object.Qlocal = required.Qsgdisp ∷ required.Cfstruct ∷ []

-- what the value of an object, its name, has to be
abbrev pub form_of_name : Object → Form
form_of_name object.Cfstruct = form.StructureName
form_of_name object.Qlocal = form.QueueName

-- what the value of a keyword has to be
abbrev pub form_of_keyword : Keyword → Form
form_of_keyword keyword.Cflevel = form.Level
form_of_keyword keyword.Offload = form.Smds
form_of_keyword keyword.Dsgroup = form.DataSets
form_of_keyword keyword.Recover = form.YesOrNo
form_of_keyword keyword.Offld1th = form.Number 0 100
form_of_keyword keyword.Offld2th = form.Number 0 100
form_of_keyword keyword.Offld3th = form.Number 0 100
form_of_keyword keyword.Offld1sz = form.RuleSize
form_of_keyword keyword.Offld2sz = form.RuleSize
form_of_keyword keyword.Offld3sz = form.RuleSize
form_of_keyword keyword.Dsblock = form.BlockSize
form_of_keyword keyword.Dsbufs = form.Number 1 9999
form_of_keyword keyword.Dsexpand = form.YesOrNo
form_of_keyword keyword.Descr = form.Description
form_of_keyword keyword.Qsgdisp = form.Shared
form_of_keyword keyword.Cfstruct = form.StructureName
form_of_keyword keyword.Put = form.EnabledOrDisabled
form_of_keyword keyword.Get = form.EnabledOrDisabled
form_of_keyword keyword.Defprty = form.Number 0 9
form_of_keyword keyword.Defpsist = form.YesOrNo
form_of_keyword keyword.Msgdlvsq = form.PriorityOrFifo
form_of_keyword keyword.Maxdepth = form.Number 0 999999999
form_of_keyword keyword.Maxmsgl = form.Number 0 104857600
form_of_keyword keyword.Share = form.Nothing
form_of_keyword keyword.Noreplace = form.Nothing
form_of_keyword keyword.Defsopt = form.Shared
