-- `step_bytes` meets its contract: a device beyond the chain is turned away, and one of it is a span of one.
use Rattle.c_twin.proofs.SteppedBytes.{no_device, as_step}
use Rattle.c_twin.proofs.step_bytes.Goals as goal

pub returns-then-n-device : goal.returns-then-n-device
returns-then-n-device c =
    let a = c.args in
    no_device a.n a.device a.memory.now a.line.now a.out.now c.if-n-device.true

pub returns : goal.returns
returns c = as_step _ _ _ _ _ _ _ _ c.if-n-device.false c.span_bytes.ensures
