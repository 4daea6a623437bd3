pub mod ChannelPuts
