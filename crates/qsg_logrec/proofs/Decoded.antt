-- What decoding records and pages answers.
use Rattle.std.proofs.Common.{◌≡◌, ℕ, List, Result, Err}
use Rattle.qsg_msg.specs.Prefix.{IsFaultPlace}
use Rattle.qsg_logrec.specs.declared.record.LogRecord.{LogRecord}
use Rattle.qsg_logrec.specs.declared.piece.Piece.{Piece}
use Rattle.qsg_logrec.specs.declared.fault.RecordFault.{RecordFault}
use Rattle.qsg_logrec.specs.declared.fault.RecordFault.TheVariants as rf
use Rattle.qsg_logrec.specs.declared.fault.PageFault.{PageFault}
use Rattle.qsg_logrec.specs.declared.fault.PageFault.TheVariants as pf
use Rattle.qsg_logrec.specs.Spelling.{IsSpelling}
use Rattle.qsg_logrec.proofs.RecordForms.{Recorded}

-- a spelling, said in two ways
pub place_is : (input : List ℕ) (at : ℕ) → IsFaultPlace (λ text. (b : LogRecord) × Recorded b text) input at → IsFaultPlace IsSpelling input at
place_is input at p = record {
  within = p.within;
  begins = (p.begins.0, (p.begins.1.0, p.begins.1.1.0, p.begins.1.1.1));
  greatest = λ n le b. p.greatest n le (b.0, (b.1.0, (b.1.1, b.1.2)));
}

abbrev pub bad_record : ℕ → Result LogRecord RecordFault
bad_record at = Err (rf.BadRecord at)

pub same_record : (a b : ℕ) → bad_record b ≡ bad_record a → a ≡ b
same_record a b e = cc

abbrev pub bad_page : ℕ → Result (List Piece) PageFault
bad_page at = Err (pf.BadPage at)

pub same_page : (a b : ℕ) → bad_page b ≡ bad_page a → a ≡ b
same_page a b e = cc
