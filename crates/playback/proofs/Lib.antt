pub mod Playback
