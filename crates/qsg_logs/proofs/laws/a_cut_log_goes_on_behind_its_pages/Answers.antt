use Rattle.qsg_logs.proofs.Cuts.{goes_on, stays_tied}
use Rattle.qsg_logs.proofs.laws.a_cut_log_goes_on_behind_its_pages.Goals as goal

pub returns-clause-writer : goal.returns-clause-writer
returns-clause-writer c = goes_on

pub returns-clause-tied : goal.returns-clause-tied
returns-clause-tied c = stays_tied
