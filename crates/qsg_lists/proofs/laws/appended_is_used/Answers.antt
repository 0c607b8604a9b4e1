use Rattle.std.proofs.lemmas.List.Sums.{sum_by_push}
use Rattle.qsg_lists.specs.declared.parts.Entry.{Entry}
use Rattle.qsg_lists.specs.Entries.{cost_of}
use Rattle.qsg_lists.proofs.laws.appended_is_used.Goals as goal

pub returns : goal.returns
returns c = λ es e. sum_by_push (λ (x : Entry). cost_of x.place) es e
