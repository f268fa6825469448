use Rattle.std.proofs.Common.{sym, subst}
use Rattle.serde_json.specs.View.{view}
use Rattle.olm_base.specs.Outcome.{Gives}
use Rattle.event_script.specs.declared.events.Word.{Word}
use Rattle.event_script.specs.Script as spec
use Rattle.event_script.specs.Events as event
use Rattle.event_script.proofs.reading.read_named.Goals as goal

pub returns-in-Delete : goal.returns-in-Delete
returns-in-Delete c =
    subst (λ (word : Word). Gives spec.is_free (spec.named_event c.args.number word (view c.args.blob.now)) c.numbered.result) (sym c.in-Delete.is)
    (c.numbered.ensures (event.delete_event (view c.args.blob.now)) c.delete_event.ensures)

pub returns-in-Approve : goal.returns-in-Approve
returns-in-Approve c =
    subst (λ (word : Word). Gives spec.is_free (spec.named_event c.args.number word (view c.args.blob.now)) c.numbered-in-Approve.result) (sym c.in-Approve.is)
    (c.numbered-in-Approve.ensures (event.approve_event (view c.args.blob.now)) c.approve_event.ensures)

pub returns-in-Catalog : goal.returns-in-Catalog
returns-in-Catalog c =
    subst (λ (word : Word). Gives spec.is_free (spec.named_event c.args.number word (view c.args.blob.now)) c.numbered-in-Catalog.result) (sym c.in-Catalog.is)
    (c.numbered-in-Catalog.ensures (event.catalog_event (view c.args.blob.now)) c.catalog_event.ensures)

pub returns-in-Ready : goal.returns-in-Ready
returns-in-Ready c =
    subst (λ (word : Word). Gives spec.is_free (spec.named_event c.args.number word (view c.args.blob.now)) c.numbered-in-Ready.result) (sym c.in-Ready.is)
    (c.numbered-in-Ready.ensures (event.ready_event (view c.args.blob.now)) c.ready_event.ensures)

pub returns-in-Retry : goal.returns-in-Retry
returns-in-Retry c =
    subst (λ (word : Word). Gives spec.is_free (spec.named_event c.args.number word (view c.args.blob.now)) c.numbered-in-Retry.result) (sym c.in-Retry.is)
    (c.numbered-in-Retry.ensures (event.retry_event (view c.args.blob.now)) c.retry_event.ensures)

pub returns-in-Worker : goal.returns-in-Worker
returns-in-Worker c =
    subst (λ (word : Word). Gives spec.is_free (spec.named_event c.args.number word (view c.args.blob.now)) c.numbered-in-Worker.result) (sym c.in-Worker.is)
    (c.numbered-in-Worker.ensures (event.worker_event (view c.args.blob.now)) c.worker_event.ensures)

pub returns-in-Look : goal.returns-in-Look
returns-in-Look c =
    subst (λ (word : Word). Gives spec.is_free (spec.named_event c.args.number word (view c.args.blob.now)) c.numbered-in-Look.result) (sym c.in-Look.is)
    (c.numbered-in-Look.ensures (event.look_event (view c.args.blob.now)) c.look_event.ensures)

pub returns-in-Act : goal.returns-in-Act
returns-in-Act c =
    subst (λ (word : Word). Gives spec.is_free (spec.named_event c.args.number word (view c.args.blob.now)) c.numbered-in-Act.result) (sym c.in-Act.is)
    (c.numbered-in-Act.ensures (event.act_event (view c.args.blob.now)) c.act_event.ensures)

pub returns-in-Settle : goal.returns-in-Settle
returns-in-Settle c =
    subst (λ (word : Word). Gives spec.is_free (spec.named_event c.args.number word (view c.args.blob.now)) c.numbered-in-Settle.result) (sym c.in-Settle.is)
    (c.numbered-in-Settle.ensures (event.settle_event (view c.args.blob.now)) c.settle_event.ensures)

pub returns-in-Release : goal.returns-in-Release
returns-in-Release c =
    subst (λ (word : Word). Gives spec.is_free (spec.named_event c.args.number word (view c.args.blob.now)) c.numbered-in-Release.result) (sym c.in-Release.is)
    (c.numbered-in-Release.ensures (event.release_event (view c.args.blob.now)) c.release_event.ensures)

pub returns-in-Lease : goal.returns-in-Lease
returns-in-Lease c =
    subst (λ (word : Word). Gives spec.is_free (spec.named_event c.args.number word (view c.args.blob.now)) c.numbered-in-Lease.result) (sym c.in-Lease.is)
    (c.numbered-in-Lease.ensures (event.lease_event (view c.args.blob.now)) c.lease_event.ensures)
