use Rattle.std.proofs.Common.{◌≡◌, Err, ap, sym, ◌∙◌}
use Rattle.std.proofs.lemmas.Result.{err_from_is_err_and}
use Rattle.qsg_logread.specs.Fed.{with_records}
use Rattle.qsg_logread.specs.Joining.{unfinished}
use Rattle.qsg_logread.specs.Records.{PageJoins}
use Rattle.qsg_logread.proofs.Feeds.{same_error, page_read_back, record_read_back, page_fault, record_fault, read_back, fed_on}
use Rattle.qsg_logread.proofs.reader.Reader.feed.Goals as goal

pub returns-in_err-pieces-clause-reads_back : goal.returns-in_err-pieces-clause-reads_back
returns-in_err-pieces-clause-reads_back c =
    let p = err_from_is_err_and c.from_residual.result c.from_residual.ensures.1 in
    rw (p.1, p.2) (λ records begun is. page_read_back c.in_err-pieces.field-0.0 c.args.self.now.begun begun c.args.no c.args.page.now records (λ why same. c.in_err-pieces.ensures.bad why (ap Err same)) is)

pub returns-in_err-pieces-clause-fault : goal.returns-in_err-pieces-clause-fault
returns-in_err-pieces-clause-fault c =
    let p = err_from_is_err_and c.from_residual.result c.from_residual.ensures.1 in
    rw (p.1, p.2) (λ why is. page_fault c.args.self.now.begun c.args.no c.args.page.now why (c.in_err-pieces.ensures.bad why (ap Err (same_error c.in_err-pieces.field-0.0 _ is))))

pub returns-in_err-records-clause-reads_back : goal.returns-in_err-records-clause-reads_back
returns-in_err-records-clause-reads_back c =
    let p = err_from_is_err_and c.from_residual-in_err-records.result c.from_residual-in_err-records.ensures.1 in
    rw (p.1, p.2, ← c.self.view_is) (λ records begun is. record_read_back c.in_err-records.field-0.0 c.self.inside.begun begun c.args.no c.args.page.now records c.in_ok-pieces.pieces c.in_ok-pieces.ensures.found
    (λ why same. c.in_err-records.ensures.bad why (ap Err same)) is)

pub returns-in_err-records-clause-fault : goal.returns-in_err-records-clause-fault
returns-in_err-records-clause-fault c =
    let p = err_from_is_err_and c.from_residual-in_err-records.result c.from_residual-in_err-records.ensures.1 in
    rw (p.1, p.2, ← c.self.view_is) (λ why is. record_fault c.self.inside.begun c.args.no c.args.page.now c.in_ok-pieces.pieces why c.in_ok-pieces.ensures.found
    (c.in_err-records.ensures.bad why (ap Err (same_error c.in_err-records.field-0.0 _ is))))

pub returns-clause-reads_back : goal.returns-clause-reads_back
returns-clause-reads_back c =
    rw (← c.self.view_is) (λ records begun is.
    c.from_vec.ensures
    ∙ read_back c.self.inside.begun (unfinished c.self.inside.begun c.in_ok-records.field-0.rest) begun c.args.page.now c.in_ok-records.field-0.records.items records c.in_ok-pieces.pieces c.in_ok-pieces.ensures.found c.in_ok-records.ensures.joined is)

pub returns-clause-fed : goal.returns-clause-fed
returns-clause-fed c =
    let is : PageJoins c.self.inside.begun c.args.page.now c.from_vec.result c.keep.new.begun = record {
      pieces = c.in_ok-pieces.pieces;
      page = c.in_ok-pieces.ensures.found;
      joins = rw (c.from_vec.ensures, c.in_ok-keep.ensures.begun) c.in_ok-records.ensures.joined;
    } in
    let noted : c.keep.new.commits ≡ with_records c.self.inside.commits c.from_vec.result = c.in_ok-keep.ensures.commits ∙ ap (with_records c.self.inside.commits) (c.deref.ensures.value ∙ sym c.from_vec.ensures) in
    rw (← c.self.view_is) (λ pages records was. fed_on pages c.args.page.now records c.from_vec.result (record { begun = c.self.inside.begun; commits = c.self.inside.commits }) (record { begun = c.keep.new.begun; commits = c.keep.new.commits }) was is noted)
