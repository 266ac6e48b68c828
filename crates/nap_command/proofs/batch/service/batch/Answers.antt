use Rattle.nap_command.proofs.{Appends-nil, CommandLemmas.reported_written, Ended, [], refl}
use Rattle.nap_command.proofs.batch.service.batch.Goals as goal

pub returns-in-Done : goal.returns-in-Done
returns-in-Done g c = record {
  end = Ended.Done;
  session = c.in-Done.ensures;
  e = [];
  reported = Appends-nil _;
  tells = record { prefix = refl; all = λ _. refl };
  status_is = refl;
}

pub returns-in-Request : goal.returns-in-Request
returns-in-Request g c =
    let t = reported_written _ _ _ c.write_whole.result _ _ c.write_whole.ensures.takes c.write_whole.ensures.failed in
    record { end = Ended.Request; session = c.in-Request.ensures; e = t.0; reported = t.1; tells = t.2; status_is = refl }

pub returns-in-Read : goal.returns-in-Read
returns-in-Read g c =
    let (e, reported, (tells, is)) = c.report.ensures in
    record { end = Ended.Read; session = c.in-Read.ensures; e = e; reported = reported; tells = tells; status_is = is }

pub returns-in-Write : goal.returns-in-Write
returns-in-Write g c =
    let (e, reported, (tells, is)) = c.report-in-Write.ensures in
    record { end = Ended.Write c.in-Write.taken; session = c.in-Write.ensures; e = e; reported = reported; tells = tells; status_is = is }

pub returns-in-Memory : goal.returns-in-Memory
returns-in-Memory g c =
    let (e, reported, (tells, is)) = c.report-in-Memory.ensures in
    record { end = Ended.Memory; session = c.in-Memory.ensures; e = e; reported = reported; tells = tells; status_is = is }
