use Rattle.qsg_agenda.specs.Courses.{verb_of}
use Rattle.qsg_agenda.proofs.Found.{next_place, next_here, kept_here, answered_here}
use Rattle.qsg_agenda.proofs.agenda.answer_in.Goals as goal

pub index_mut-requires : goal.index_mut-requires
index_mut-requires c = rw c.args.parts.now.ok.0 (next_place c.args.actor c.deref.result.now c.args.parts.now.items _ c.place_of-place.ensures c.deref.ensures.value c.requires.next)

pub answer_next-requires-clause-next : goal.answer_next-requires-clause-next
answer_next-requires-clause-next c = next_here c.args.actor c.deref.result.now _ c.place_of-place.result _ c.place_of-place.ensures c.deref.ensures.value c.index_mut.ensures.value c.requires.next

pub answer_next-requires-clause-kept : goal.answer_next-requires-clause-kept
answer_next-requires-clause-kept c =
    kept_here c.args.actor c.deref.result.now _ c.place_of-place.result _ c.place_of-place.ensures c.deref.ensures.value c.index_mut.ensures.value c.requires.next c.requires.kept

pub returns-clause-answered : goal.returns-clause-answered
returns-clause-answered c =
    answered_here c.args.actor (λ d. record { verb = verb_of d; reply = c.args.reply; at = c.args.at }) c.deref.result.now c.args.parts.now.items c.place_of-place.result c.index_mut.result.now c.answer_next.new.part
    c.place_of-place.ensures c.deref.ensures.value c.index_mut.ensures.value c.answer_next.ensures.answered
