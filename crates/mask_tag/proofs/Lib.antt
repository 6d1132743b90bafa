mod Masks
