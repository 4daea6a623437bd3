use Rattle.std.proofs.Common.{◌-◌, length, arith}
use Rattle.forward_list.proofs.Lists.{ends_in_getm-last}
use Rattle.forward_list.proofs.forward_list.ForwardList.ends_in_getm.Goals as goal

pub returns-in-len1-up : goal.returns-in-len1-up
returns-in-len1-up c = grind (arith, c.is_getm.ensures, c.last-item.is, c.as_slice.ensures.value, c.self.view_is, ends_in_getm-last c.as_slice.result.now (length c.as_slice.result.now - 1) c.last-item.result)
