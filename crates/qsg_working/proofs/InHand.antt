-- a work that was taken out of its task's hand, and put back
use Rattle.std.proofs.Common.{◌≡◌, List, Option, None, set-set}
use Rattle.std.proofs.lemmas.List.{set-get_or}
use Rattle.qsg_num.specs.declared.seats.Member.{Member}
use Rattle.qsg_num.specs.declared.seats.TaskNo.{TaskNo}
use Rattle.qsg_works.specs.declared.work.Work.{Work}
use Rattle.qsg_works.specs.InHand.{place, work_of, with_work}

pub put_again : (m : Member) (t : TaskNo) (w v : Option Work) (works : List (Option Work)) → with_work m t v (with_work m t w works) ≡ with_work m t v works
put_again m t w v works = set-set works (place m t) w v

pub put_back : (m : Member) (t : TaskNo) (works : List (Option Work)) → with_work m t (work_of m t works) works ≡ works
put_back m t works = set-get_or works (place m t) None
