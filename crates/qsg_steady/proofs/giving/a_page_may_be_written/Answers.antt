use Rattle.qsg_steady.proofs.Gives.{page_in_hand, hardens_alone, slot_left}
use Rattle.qsg_steady.proofs.giving.a_page_may_be_written.Goals as goal

pub returns-clause-in_hand : goal.returns-clause-in_hand
returns-clause-in_hand c = page_in_hand

pub returns-clause-only : goal.returns-clause-only
returns-clause-only c = hardens_alone

pub returns-clause-room : goal.returns-clause-room
returns-clause-room c = slot_left
