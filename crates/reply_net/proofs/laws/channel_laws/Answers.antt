use Rattle.reply_net.proofs.ChannelsKept.{channels_sent, channels_hopped, channels_came}
use Rattle.reply_net.proofs.laws.channel_laws.Goals as goal

pub returns-clause-sent : goal.returns-clause-sent
returns-clause-sent c = channels_sent

pub returns-clause-hopped : goal.returns-clause-hopped
returns-clause-hopped c = channels_hopped

pub returns-clause-came : goal.returns-clause-came
returns-clause-came c = channels_came
