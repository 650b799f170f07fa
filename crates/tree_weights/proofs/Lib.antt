mod CutLaws
mod Growths
mod Heights
mod Weighing
